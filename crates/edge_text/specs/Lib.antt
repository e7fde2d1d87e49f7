pub mod Pairs
pub mod Merge
pub mod Operations
