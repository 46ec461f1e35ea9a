mod Examples
pub mod CountLemmas
pub mod OnceLemmas
pub mod TotalLemmas
