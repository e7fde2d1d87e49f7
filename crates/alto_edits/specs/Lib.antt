pub mod Edits
pub mod Writes
pub mod Rules
pub mod Versions
pub mod Compiled
pub mod Limits
pub mod Text
pub mod Laws
