pub mod Refilling
pub mod Answers
pub mod Turns
pub mod Handed
pub mod Determined
