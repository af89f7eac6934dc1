pub mod AllWaiting
pub mod Crossing
pub mod Derivations
pub mod Entries
pub mod Members
pub mod OpenClients
pub mod Tests
pub mod Waiting
