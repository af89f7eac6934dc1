pub mod Enough
pub mod Stacked
pub mod Values
