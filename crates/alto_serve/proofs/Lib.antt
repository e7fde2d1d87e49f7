pub mod WritingLemmas
mod ConnectionLemmas
pub mod EventLemmas
mod SoloLemmas
mod StepLemmas
mod TurnLemmas
pub mod WalkLemmas
