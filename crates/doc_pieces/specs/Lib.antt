pub mod Pieces
pub mod Parts
pub mod Renewed
pub mod Laws
pub mod Text
