pub mod DigitLemmas
pub mod HalfLemmas
pub mod SizeLemmas
pub mod RightLemmas
pub mod BeginLemmas
pub mod CountLemmas
