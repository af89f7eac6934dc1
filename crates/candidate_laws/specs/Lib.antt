pub mod Asked
pub mod ListLaws
pub mod Lists
pub mod Sought
pub mod TreeLaws
pub mod Waiting
