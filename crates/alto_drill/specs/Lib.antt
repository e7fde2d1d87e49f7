pub mod Blocks
pub mod Draws
pub mod Imports
pub mod Edges
pub mod Trials
pub mod Drilled
