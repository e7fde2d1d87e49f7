pub mod Inherit
pub mod Filter
pub mod Laws
pub mod Repeats
