pub mod Contents
pub mod Copies
pub mod Indexes
pub mod Needs
pub mod Views
pub use Rattle.type_images.specs.Images
pub use Rattle.type_images.specs.Same
