pub mod BySorts
pub mod Cut
pub mod Few
pub mod Gained
pub mod Order
pub mod Reached
pub mod Rows
