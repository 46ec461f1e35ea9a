pub mod CountsLemmas
pub mod PlaceLemmas
