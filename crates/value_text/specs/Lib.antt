pub mod Bytes
pub mod Unfinished
pub mod Values
pub mod Vocabularies
