pub mod Rules
pub mod Fit
pub mod Numbered
pub mod Receipts
