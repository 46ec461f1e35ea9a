pub mod SaidLemmas
pub mod TakenLemmas
pub mod RisingLemmas
pub mod DraftLemmas
pub mod ReadingLemmas
