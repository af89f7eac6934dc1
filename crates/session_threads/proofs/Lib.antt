pub mod Wishing
pub mod Ordering
pub mod Crossing
pub mod Windowing
pub mod Ending
pub mod Spawning
mod Turning
