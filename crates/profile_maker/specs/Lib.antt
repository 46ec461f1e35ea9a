pub mod Asked
pub mod MapLaws
pub mod Laws
pub mod Profiled
