pub mod InheritLemmas
pub mod CutLemmas
pub mod PidLemmas
pub mod GroupLemmas
pub mod RepeatLemmas
