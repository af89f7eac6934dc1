pub mod Rules
pub mod Needed
pub mod Searches
pub mod Jobs
pub mod Numbered
pub mod Laws
