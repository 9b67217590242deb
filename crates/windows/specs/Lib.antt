pub mod Window
pub mod Interval
