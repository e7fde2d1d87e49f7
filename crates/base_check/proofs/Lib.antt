pub mod ReceiptLemmas
pub mod RowLemmas
pub mod NumberedLemmas
pub mod RuleLemmas
