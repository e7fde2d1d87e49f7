pub mod Bits
pub mod Order
pub mod Faults
pub mod Fronts
pub mod Languages
pub mod Place
pub mod Text
pub mod Tokens
