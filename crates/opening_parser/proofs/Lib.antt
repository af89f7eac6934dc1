pub mod Chosen
pub mod Leads
pub mod Openings
