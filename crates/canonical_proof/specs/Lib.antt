pub mod Asking
pub mod Canonical
pub mod Laws
pub mod Lines
