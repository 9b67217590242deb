pub mod Taking
pub mod Drawn
pub mod Scaling
pub mod Determined
pub mod Accepted
