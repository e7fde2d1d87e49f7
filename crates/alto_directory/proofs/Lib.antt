pub mod SetLemmas
pub mod RowLemmas
pub mod NameLemmas
pub mod EntryLemmas
pub mod MemberLemmas
