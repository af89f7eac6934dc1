pub mod Asked
pub mod Ends
pub mod Pending
pub mod Stepping
pub mod Telling
pub mod TwoLists
pub mod Waiting
