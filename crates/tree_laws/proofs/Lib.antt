pub mod Choosing
pub mod Differing
pub mod Listing
pub mod Owning
pub mod Planning
pub mod Slots
