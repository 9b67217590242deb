pub mod Ones
pub mod Rows
pub mod Refusals
pub mod Pictures
pub mod Known
pub mod Determined
