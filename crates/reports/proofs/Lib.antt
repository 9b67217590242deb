pub mod Report
pub mod Within
pub mod Rows
pub mod Parts
pub mod Counting
pub mod Determined
pub mod Examples
