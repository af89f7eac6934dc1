pub mod Alike
pub mod Laws
pub mod NameLaws
pub mod Tokens
