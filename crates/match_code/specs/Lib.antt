pub mod Entries
pub mod Frames
pub mod Prepared
pub mod Rights
pub mod States
