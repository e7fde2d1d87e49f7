pub mod KindLemmas
pub mod KeyLemmas
pub mod ValueLemmas
pub mod WriteLemmas
pub mod BatchLemmas
pub mod ShortLemmas
pub mod OnceLemmas
pub mod SpelledLemmas
