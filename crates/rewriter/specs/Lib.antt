pub mod Answers
pub mod Calls
pub mod Faults
pub mod Index
pub mod Machine
pub mod Runs
pub mod Steps
