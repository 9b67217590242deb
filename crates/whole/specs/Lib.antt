pub mod Equal
pub mod Interval
pub mod Listed
