pub mod ChangeLemmas
pub mod LargestLemmas
pub mod PartLemmas
pub mod StepLemmas
pub mod SweepLemmas
pub mod WalkLemmas
