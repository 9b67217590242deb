pub mod Circle
pub mod Corners
pub mod Refusal
pub mod Root
