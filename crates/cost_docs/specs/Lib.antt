pub mod CostMap
pub mod Ordinal
pub mod Costs
pub mod Writing
pub mod Laws
pub mod Kept
