pub mod Fullness
pub mod Groups
pub mod Renamings
