pub mod Faults
pub mod Laws
pub mod Merge
pub mod OperationList
pub mod Operations
