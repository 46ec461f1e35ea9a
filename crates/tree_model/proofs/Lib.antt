mod BaseExamples
mod PieceExamples
mod WayExamples
mod DownLemmas
mod Examples
