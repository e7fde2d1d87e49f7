pub mod Addresses
pub mod Calls
pub mod Door
pub mod Doors
pub mod Keys
pub mod Listeners
pub mod MemDoors
pub mod Workers
