pub mod Words
pub mod Files
