pub mod Copied
pub mod Nodes
pub mod Own
pub mod Parts
