pub mod Lookups
pub mod Objects
pub mod OrderLemmas
pub mod PointerLemmas
pub mod ReadBack
pub mod TextLemmas
pub mod TokenLemmas
pub mod Trees
