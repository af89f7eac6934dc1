pub mod Leads
pub mod Openings
