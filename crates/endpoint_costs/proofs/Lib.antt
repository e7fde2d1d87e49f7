pub mod ReadingLemmas
pub mod OnceLemmas
pub mod EntryLemmas
pub mod TextLemmas
pub mod OrderedLemmas
