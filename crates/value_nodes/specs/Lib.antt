pub mod Copies
pub mod Nodes
pub mod Own
pub mod Parts
pub mod Sizes
