pub mod Figures
pub mod Edge
pub mod Level
pub mod Lines
pub mod Outline
