pub mod Places
pub mod EntryLists
pub mod Accounts
pub mod TurnSteps
pub mod SeatSteps
pub mod Closing
pub mod Rows
