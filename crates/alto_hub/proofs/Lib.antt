pub mod AddLemmas
pub mod EventLemmas
pub mod HistoryLemmas
pub mod LockLemmas
pub mod PrefixLemmas
pub mod TurnLemmas
