pub mod ReportLemmas
pub mod StoreLemmas
pub mod BodyLemmas
pub mod InitLemmas
pub mod ImportLemmas
pub mod PipeLemmas
pub mod ShowLemmas
pub mod TrimLemmas
