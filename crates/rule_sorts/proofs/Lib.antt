pub mod Reached
pub mod Standing
pub mod Suiting
