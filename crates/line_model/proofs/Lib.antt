mod Examples
pub mod Rows
pub mod Spelled
mod RowExamples
