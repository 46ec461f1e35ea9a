pub mod EachLemmas
pub mod RowLemmas
pub mod NameLemmas
pub mod PlaceLemmas
pub mod SampleLemmas
pub mod CountLemmas
pub mod ToldLemmas
