mod Ahead
mod Answered
pub mod FieldLemmas
pub mod Fronts
mod HeadEnds
mod HeadLines
mod Heads
mod Links
mod OneNext
mod Places
mod Ranges
mod Refusals
