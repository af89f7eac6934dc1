pub mod Deciding
pub mod Shows
pub mod Laws
pub mod Models
