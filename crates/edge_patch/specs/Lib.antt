pub mod Documents
pub mod Merge
pub mod OperationForm
pub mod Laws
