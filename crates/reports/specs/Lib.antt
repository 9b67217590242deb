pub mod Words
pub mod Corners
pub mod Spans
pub mod Minutes
