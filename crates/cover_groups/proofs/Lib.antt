pub mod ConstantSorts
pub mod Fitting
pub mod Fullness
pub mod Grouping
pub mod Heading
