pub mod Asked
pub mod Depending
pub mod Noting
pub mod Ordering
pub mod Refusing
pub mod Smaller
pub mod Walks
