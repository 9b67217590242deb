pub mod Reply
pub mod Dump
pub mod Bytes
