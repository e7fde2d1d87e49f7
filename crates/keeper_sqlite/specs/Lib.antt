pub mod Texts
pub mod Store
pub mod Reading
pub mod SqlKeeper
