pub mod Blanks
pub mod Knowing
pub mod Parts
pub mod Frames
pub mod Turns
pub mod Asking
pub mod Laws
pub mod Sides
