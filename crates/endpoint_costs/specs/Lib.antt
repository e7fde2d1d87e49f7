pub mod Reading
pub mod Ask
pub mod Costs
pub mod Laws
pub mod Entries
pub mod Texts
