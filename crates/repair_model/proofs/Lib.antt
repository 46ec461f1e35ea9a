mod Examples
pub mod CheckLemmas
pub mod LineLemmas
pub mod ApartLemmas
pub mod WholeLemmas
pub mod BackLemmas
