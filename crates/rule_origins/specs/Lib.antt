pub mod Parts
pub mod Stacks
pub mod Values
pub mod Laws
