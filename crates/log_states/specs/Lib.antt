pub mod Clients
pub mod Pending
pub mod Possible
pub mod Views
