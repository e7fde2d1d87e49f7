pub mod Keys
pub mod Edges
pub mod Graph
pub mod Sound
pub mod Shortcuts
pub mod Table
pub mod Laws
