pub mod EntryLemmas
pub mod MergeLemmas
