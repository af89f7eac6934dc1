pub mod Data
pub use Rattle.type_images.specs.Images
pub use Rattle.type_images.specs.Same
