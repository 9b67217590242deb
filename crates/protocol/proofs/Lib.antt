pub mod Writes
pub mod Hexadecimal
pub mod Parts
