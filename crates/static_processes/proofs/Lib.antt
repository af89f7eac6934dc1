mod HeadingsAt
pub mod Numbered
pub mod Sorts
mod Standing
