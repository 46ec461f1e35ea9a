pub mod Cursor
pub mod Front
pub mod Laws
pub mod Leb
pub mod Part
pub mod Reading
