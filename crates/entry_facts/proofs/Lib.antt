pub mod WayLemmas
pub mod FoundLemmas
pub mod StepLemmas
pub mod TextLemmas
pub mod MemoLemmas
pub mod ListLemmas
pub mod WalkLemmas
pub mod ListedLemmas
