pub mod Acting
pub mod Asking
pub mod Crossing
pub mod Growing
