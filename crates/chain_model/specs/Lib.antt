pub mod Chains
pub mod Laws
pub mod Pass
pub mod Places
