mod Had
pub mod Lists
pub mod OneEach
pub mod OwnReadings
pub mod Uniqueness
