pub mod Discriminators
pub mod SplitLaws
pub mod Numbers
pub mod Places
pub mod Segments
