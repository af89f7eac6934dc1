pub mod Counting
pub mod Lines
pub mod Menus
pub mod Wishing
