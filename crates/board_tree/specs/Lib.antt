pub mod Changes
pub mod Keeping
pub mod Sides
pub mod Steps
pub mod Views
