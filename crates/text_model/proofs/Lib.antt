mod Examples
pub mod LawLemmas
pub mod LineLemmas
pub mod LineTestLemmas
pub mod FieldLemmas
pub mod NumberLemmas
pub mod DigitLemmas
pub mod PlaceLemmas
