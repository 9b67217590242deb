pub mod Figure
pub mod Earlier
