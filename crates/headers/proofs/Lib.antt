pub mod Parsing
pub mod Entries
pub mod Forms
pub mod Determined
pub mod Known
