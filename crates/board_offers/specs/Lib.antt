pub mod Offers
pub mod Waiting
pub mod Numbering
pub mod Laws
