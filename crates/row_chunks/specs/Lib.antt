pub mod Cut
pub mod Blocks
pub mod Passed
pub mod Split
pub mod Made
pub mod Shared
