pub mod Steps
pub mod Determined
