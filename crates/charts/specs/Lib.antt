pub mod Scale
pub mod Picture
pub mod Day
