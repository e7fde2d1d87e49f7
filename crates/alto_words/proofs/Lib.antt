mod BuilderLemmas
mod FoundLemmas
mod NumberLemmas
