pub mod Closing
pub mod Examples
pub mod Laws
pub mod Spelled
pub mod Substitution
