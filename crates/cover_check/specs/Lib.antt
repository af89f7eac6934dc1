pub mod Cases
pub mod Marks
pub mod Opening
pub mod Rows
