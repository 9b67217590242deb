pub mod State
pub mod Refill
pub mod Run
pub mod Handed
