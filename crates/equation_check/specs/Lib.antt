pub mod Groups
pub mod Shape
