pub mod Decimals
pub mod WrittenBook
