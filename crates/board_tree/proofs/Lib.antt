pub mod Changing
pub mod Crossing
pub mod Going
pub mod Moving
pub mod Starting
pub mod Stepping
pub mod Untouched
