pub mod Connected
pub mod Walk
pub mod Answer
pub mod Known
