pub mod Items
pub mod Levels
pub mod Specifications
