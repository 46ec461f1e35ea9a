pub mod Room
pub mod Texts
pub mod Tables
pub mod Found
pub mod Reach
pub mod Judged
