pub mod Bases
pub mod Pieces
pub mod Faults
pub mod Parts
pub mod Examples
