pub mod Found
pub mod Slots
pub mod Unmarked
pub mod Wanted
