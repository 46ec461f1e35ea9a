mod CalledLemmas
mod Examples
mod FunctionLemmas
mod HotLemmas
mod ItemLemmas
pub mod MergeLemmas
mod RowLemmas
mod SummaryLemmas
pub mod TellLemmas
mod TreeLemmas
