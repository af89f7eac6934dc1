pub mod Spreading
pub mod Reaching
