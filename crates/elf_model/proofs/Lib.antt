mod Examples
pub mod LawLemmas
