pub mod Flattens
pub mod Refusals
pub mod Views
