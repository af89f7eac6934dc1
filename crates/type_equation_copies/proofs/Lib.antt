pub mod Agreeing
pub mod Lists
pub mod Named
pub mod Schedules
pub use Rattle.type_images.proofs.Terms
