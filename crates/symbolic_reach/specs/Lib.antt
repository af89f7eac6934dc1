pub mod Reached
pub mod Spread
pub mod Laws
pub mod Examples
pub mod Parts
pub mod Asking
