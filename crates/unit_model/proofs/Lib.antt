mod AbbrevExamples
mod Examples
