mod ColdExamples
mod Examples
mod LiftExamples
mod MergeExamples
