pub mod MemberLemmas
pub mod MergeLemmas
pub mod OperationLemmas
pub mod OperationListLemmas
