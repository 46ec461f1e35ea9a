mod Examples
pub mod OrderLemmas
pub mod OrderedLemmas
pub mod StepLemmas
mod HitExamples
pub mod HitLemmas
mod ReadingExamples
