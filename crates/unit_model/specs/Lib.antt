pub mod Abbrev
pub mod Table
pub mod Constants
pub mod Entries
pub mod Header
pub mod Units
pub mod Values
pub mod Wanted
