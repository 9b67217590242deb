pub mod Side
pub mod Edges
