pub mod Checked
pub mod Entries
pub mod Laws
pub mod Starting
pub mod Views
