pub mod Choosing
pub mod Grouping
pub mod Indexing
pub mod Refusing
