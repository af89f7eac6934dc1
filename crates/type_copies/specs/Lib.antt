pub mod BadActuals
pub mod BadRenamings
pub mod Copies
pub mod UnknownSorts
pub mod Views
