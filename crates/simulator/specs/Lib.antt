pub mod Menus
pub mod Offering
pub mod Sims
