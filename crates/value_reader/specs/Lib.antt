pub mod Ends
pub mod Extents
pub mod Items
pub mod Laws
pub mod Spelled
pub mod Stands
pub mod Views
