pub mod Asking
pub mod Choosing
pub mod Listing
pub use Rattle.board_record.specs.Records
