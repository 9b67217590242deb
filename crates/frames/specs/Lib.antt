pub mod Answer
pub mod Description
pub mod Judged
pub mod Drawing
pub mod Canvas
