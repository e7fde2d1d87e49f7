pub mod CountLemmas
pub mod ClosedLemmas
pub mod EditLemmas
pub mod VersionLemmas
pub mod LawLemmas
pub mod LimitLemmas
