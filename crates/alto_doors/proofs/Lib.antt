pub mod KeyLemmas
pub mod WorkerLemmas
