pub mod Commands
pub mod Numbers
pub mod Grammar
pub mod Tasks
pub mod Words
pub mod Lines
