pub mod Place
pub mod Extreme
pub mod Bound
pub mod Answer
