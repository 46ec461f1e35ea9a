pub mod Cold
pub mod Laws
