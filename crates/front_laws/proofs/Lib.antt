mod Trees
pub mod Answers
pub mod Data
pub mod Ready
pub mod Texts
pub mod TypeTrees
pub mod Types
pub mod WhereParts
