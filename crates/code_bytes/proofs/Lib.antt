pub mod StuckLemmas
pub mod NumberLemmas
pub mod NameLemmas
pub mod FixedLemmas
pub mod PrefixLemmas
pub mod GrammarLemmas
pub mod CharLemmas
pub mod OnceLemmas
