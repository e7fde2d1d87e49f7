pub mod Fields
pub mod Ask
pub mod PathCosts
pub mod PathProperties
pub mod Found
pub mod Multipart
