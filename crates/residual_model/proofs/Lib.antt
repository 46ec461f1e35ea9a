mod Examples
pub mod StepLemmas
pub mod CutLemmas
pub mod PushLemmas
pub mod LoadLemmas
pub mod BoundLemmas
