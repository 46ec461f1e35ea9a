mod Examples
mod FlowExamples
mod LawExamples
