pub mod Grammar
pub mod Meaning
pub mod Beginning
pub mod Stages
pub mod Laws
