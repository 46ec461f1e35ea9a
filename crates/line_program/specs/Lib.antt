pub mod Tables
pub mod Faults
pub mod Programs
pub mod Steps
pub mod Headers
pub mod State
pub mod Machines
pub mod Rows
