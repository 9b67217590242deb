pub mod Circles
pub mod Fill
