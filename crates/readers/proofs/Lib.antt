pub mod Letters
pub mod Readings
pub mod Determined
