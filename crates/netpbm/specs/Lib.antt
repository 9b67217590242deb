pub mod Image
pub mod Written
pub mod Reading
pub mod Words
pub mod Known
