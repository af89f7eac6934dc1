pub mod Rising
pub mod Leaving
pub use Rattle.log_states.proofs.Members
pub use Rattle.log_states.proofs.Tests
pub use Rattle.session_laws.proofs.Driven
