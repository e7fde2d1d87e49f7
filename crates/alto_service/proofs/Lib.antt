mod CountLemmas
mod KeptLemmas
pub mod StatusLemmas
