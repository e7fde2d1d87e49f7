pub mod Tables
pub mod Lists
pub mod Renewed
pub mod Numbers
pub mod Between
