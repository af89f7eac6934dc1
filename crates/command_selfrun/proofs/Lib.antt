mod Entries
pub mod Given
