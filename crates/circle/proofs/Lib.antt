pub mod Roots
pub mod Containment
pub mod Corners
pub mod Spans
pub mod Refusals
pub mod Worked
pub mod Determined
