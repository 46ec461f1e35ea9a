pub mod Said
pub mod Taken
pub mod Draft
pub mod Fun
pub mod Reading
