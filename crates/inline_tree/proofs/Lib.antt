pub mod CallLemmas
pub mod LoopLemmas
pub mod StepLemmas
