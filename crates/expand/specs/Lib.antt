pub mod Outcomes
pub mod Joins
pub mod Choosing
pub mod Expansions
