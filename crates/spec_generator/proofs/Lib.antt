pub mod Chains
pub mod Examples
pub mod Ranges
pub mod Scripts
