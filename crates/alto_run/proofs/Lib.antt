mod IfLemmas
pub mod StatusLemmas
mod TaskLemmas
