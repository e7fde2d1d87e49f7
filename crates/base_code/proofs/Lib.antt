pub mod PartLemmas
pub mod PieceLemmas
pub mod RowLemmas
pub mod BeginningLemmas
pub mod NextLemmas
pub mod BaseLemmas
