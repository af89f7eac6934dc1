pub mod Loosened
pub mod Laws
pub mod Examples
