pub mod Acting
pub mod Laws
