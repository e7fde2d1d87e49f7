pub mod AskLemmas
pub mod AuthorityLemmas
pub mod EdgeLemmas
pub mod EdgeNumberLemmas
pub mod HeldLemmas
pub mod LookupLemmas
pub mod NamedLemmas
pub mod NewestLemmas
mod PidLemmas
pub mod SeenLemmas
mod TargetLemmas
pub mod UniqueLemmas
pub mod ViewLemmas
