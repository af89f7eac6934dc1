pub mod Begun
pub mod Choices
pub mod Closed
pub mod Joined
pub mod Rows
pub mod Whole
