pub mod Budgets
pub mod Outcomes
pub mod Steps
pub mod TermLists
