pub mod Words
pub mod Draw
