pub mod NetworkMap
pub mod Prefixes
pub mod Writing
pub mod Differ
pub mod Laws
pub mod Merged
pub mod Ask
pub mod Filter
