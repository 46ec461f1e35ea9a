pub mod Reading
pub mod Repair
pub mod Said
pub mod Told
