pub mod Cost
pub mod Flow
pub mod Net
pub mod Rows
pub mod Table
