pub mod Outline
pub mod Determined
