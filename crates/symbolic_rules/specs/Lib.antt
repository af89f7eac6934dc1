pub mod Examples
pub mod Laws
pub mod MarkedFields
pub mod MarkedTerms
pub mod MayDerive
pub mod Tables
pub mod Trees
pub mod Windows
