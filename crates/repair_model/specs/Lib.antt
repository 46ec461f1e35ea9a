pub mod Bits
pub mod Checking
pub mod Judging
pub mod Laws
pub mod Line
pub mod Made
pub mod Repair
pub mod Text
