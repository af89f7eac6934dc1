pub mod Closing
pub use Rattle.log_states.specs.Clients
pub use Rattle.session_laws.specs.Answers
pub use Rattle.session_laws.specs.Logs
pub use Rattle.session_laws.specs.Sessions
