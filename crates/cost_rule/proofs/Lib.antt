pub mod DigitLemmas
pub mod Reading
pub mod Complete
pub mod Remainder
pub mod Sound
pub mod Longest
pub mod ListLemmas
