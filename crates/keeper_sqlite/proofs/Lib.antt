pub mod TextLemmas
pub mod TableLemmas
pub mod EndLemmas
pub mod StatementLemmas
pub mod DeleteLemmas
pub mod AddingLemmas
pub mod CrashLemmas
