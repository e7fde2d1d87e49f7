pub mod Edits
pub mod History
pub mod Rules
pub mod Seen
pub mod Versions
