pub mod Common
pub mod Exclusion
pub mod Given
pub mod Laws
pub mod Library
pub mod Renamings
