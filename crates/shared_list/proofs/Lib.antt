pub mod OrderLemmas
pub mod SearchLemmas
pub mod ChangedLemmas
pub mod FindLemmas
pub mod SameLemmas
