pub mod Windows
pub mod Clips
pub mod Interval
pub mod Determined
