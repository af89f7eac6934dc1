pub mod AllWait
pub mod Derivations
pub mod Entries
pub mod Members
pub mod Order
pub mod Places
pub mod Sound
pub mod Stalls
