mod Examples
pub mod SplitLemmas
pub mod KeyLemmas
pub mod NameLemmas
pub mod NumberLemmas
pub mod SearchLemmas
pub mod ToldLemmas
