pub mod Stuck
pub mod Pieces
pub mod Chars
pub mod Inside
