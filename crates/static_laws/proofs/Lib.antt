mod Closed
mod Copied
mod Covered
mod Items
mod Membership
mod Ordered
mod Placed
mod PresentationVariables
mod Read
mod Recursion
mod Spelled
mod Typed
mod Walking
mod WellMade
pub mod Assembled
pub mod Assembling
pub mod Bodies
pub mod CalledRow
pub mod Calling
pub mod Codes
pub mod CompiledOnce
pub mod CompiledVariables
pub mod Copies
pub mod Endings
pub mod Fields
pub mod Gates
pub mod Judgements
pub mod Known
pub mod Opens
pub mod OpensRows
pub mod Options
pub mod Parts
pub mod PartsRows
pub mod PresentationNamed
pub mod Presented
pub mod Readiness
pub mod Readings
pub mod Ready
pub mod Rows
pub mod SpecificationNamed
pub mod SpecificationOnce
pub mod Standings
pub mod Values
pub mod Whole
