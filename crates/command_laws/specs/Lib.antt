pub mod Checked
pub mod Cold
pub mod Entries
pub mod Laws
pub mod Merged
pub mod Orders
