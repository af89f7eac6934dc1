pub mod Answered
pub mod Faults
pub mod Records
pub mod Views
