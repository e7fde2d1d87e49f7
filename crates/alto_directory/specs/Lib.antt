pub mod Network
pub mod Names
pub mod MediaTypes
pub mod Entry
pub mod CostTypes
pub mod Entries
pub mod Directory
pub mod Laws
