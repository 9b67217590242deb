pub mod Order
pub mod Triangle
pub mod EdgePoint
pub mod Row
pub mod Offsets
pub mod Box
pub mod Answer
