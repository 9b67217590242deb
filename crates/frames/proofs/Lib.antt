pub mod Refusals
pub mod Calls
pub mod Determined
pub mod Answer
