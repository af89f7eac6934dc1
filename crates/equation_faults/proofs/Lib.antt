pub mod Constructing
pub mod Occurrences
pub mod Options
pub mod Walks
