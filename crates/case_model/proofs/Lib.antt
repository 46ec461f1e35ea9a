pub mod EachLemmas
pub mod SizeLemmas
mod Examples
