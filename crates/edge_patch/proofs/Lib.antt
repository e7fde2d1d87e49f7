pub mod KindLemmas
pub mod LawLemmas
pub mod StepLemmas
