pub mod ValuedLemmas
pub mod RowLemmas
pub mod ShownLemmas
pub mod AneLemmas
