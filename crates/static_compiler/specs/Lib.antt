pub mod Frames
pub mod Overs
pub mod Parts
pub mod Views
