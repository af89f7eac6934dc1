pub mod Groups
pub mod Images
pub mod Same
pub mod Views
