pub mod Apart
pub mod Run
pub mod Written
