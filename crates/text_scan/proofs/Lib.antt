mod Examples
pub mod DecimalLemmas
pub mod Growth
pub mod LineLemmas
pub mod ReadLemmas
pub mod WriteLemmas
