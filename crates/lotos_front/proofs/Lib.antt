pub mod Collected
pub mod Refusing
pub mod TakenIn
