pub mod Kept
pub mod Listed
pub mod Lists
pub mod Meaning
pub mod Memo
pub mod Texts
pub mod Told
pub mod Walk
