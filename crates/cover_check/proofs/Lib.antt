pub mod Covering
pub mod Marking
pub mod Occurring
pub mod Opening
