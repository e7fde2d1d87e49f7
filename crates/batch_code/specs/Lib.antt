pub mod Spelling
pub mod Storable
pub mod Grammar
pub mod Values
pub mod Faults
pub mod Bodies
pub mod Examples
