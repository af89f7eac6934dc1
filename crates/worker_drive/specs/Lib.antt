pub mod Counts
pub mod Offers
