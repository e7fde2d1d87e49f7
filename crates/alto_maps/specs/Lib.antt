pub mod Shape
pub mod Places
pub mod Touched
pub mod MergeForm
pub mod OperationForm
pub mod Writing
pub mod Differ
pub mod Laws
