pub mod Rules
pub mod Laws
pub mod Text
pub mod Touched
pub mod Named
pub mod Owners
pub mod Numbers
