pub mod NameLemmas
pub mod TextLemmas
pub mod PartLemmas
pub mod PlaceLemmas
pub mod RenewedLemmas
pub mod PlainLemmas
