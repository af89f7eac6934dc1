pub mod AllRead
pub mod Endings
pub mod First
pub mod Judged
pub mod OneByOne
pub mod Sites
pub mod Unrefused
pub use Rattle.sort_overloads.proofs.Any
