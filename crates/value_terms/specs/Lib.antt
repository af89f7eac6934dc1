pub mod Spelled
pub mod Stacks
