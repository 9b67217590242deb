pub mod Words
pub mod Screen
