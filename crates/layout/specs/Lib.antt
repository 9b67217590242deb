pub mod Digits
pub mod Paint
pub mod Figure
pub mod Layout
pub mod Count
pub mod Packed
