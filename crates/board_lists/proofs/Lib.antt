pub mod Firsts
pub mod Fronts
pub mod Leaving
pub mod Listed
pub mod Reasons
pub mod Searching
