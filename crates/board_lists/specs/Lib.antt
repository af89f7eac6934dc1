pub mod Leaving
pub mod Listings
pub mod Looking
