pub mod Faults
pub mod Inputs
pub mod MemoryInputs
pub mod MemorySink
pub mod Outside
pub mod Sink
pub mod Whole
