pub mod Headings
pub mod NamedParts
pub mod Processes
pub mod Views
pub mod WhereParts
