pub mod FeedLemmas
pub mod LoadLemmas
pub mod PieceLemmas
pub mod ReaderLemmas
pub mod TextLemmas
