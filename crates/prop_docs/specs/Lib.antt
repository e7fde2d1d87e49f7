pub mod PropertyMap
pub mod Properties
pub mod Writing
pub mod Laws
pub mod Ask
