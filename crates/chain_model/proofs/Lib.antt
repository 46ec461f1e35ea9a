pub mod ChainLemmas
mod DownLemmas
mod Examples
mod KeyLemmas
pub mod PassLemmas
