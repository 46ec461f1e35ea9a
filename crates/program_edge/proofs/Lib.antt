pub mod BranchTextLemmas
pub mod Examples
pub mod ReachedLemmas
pub mod RunExamples
pub mod SamplesLemmas
pub mod SizedLemmas
pub mod WalkLemmas
