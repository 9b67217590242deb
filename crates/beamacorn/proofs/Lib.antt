pub mod Places
pub mod Calls
pub mod Determined
pub mod Positions
