pub mod Rows
pub mod Edges
pub mod Pixels
pub mod Brushes
