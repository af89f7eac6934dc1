pub mod Listed
pub mod Marking
pub mod Fields
pub mod Marked
pub mod One
pub mod Loosening
pub mod Examples
