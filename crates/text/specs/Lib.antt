pub mod Digits
pub mod Read
pub mod Show
pub mod Fields
pub mod Lines
pub mod Words
