pub mod Crossing
pub mod Differing
pub mod Finding
pub mod Growing
pub mod Listing
pub mod Posts
pub mod Tidying
