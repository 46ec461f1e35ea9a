pub mod Parts
pub mod Said
pub mod Stamps
pub mod Path
pub mod Draft
pub mod Numbers
pub mod Text
