pub mod Stored
pub mod MemKeeper
pub mod MemVault
