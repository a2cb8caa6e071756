pub mod LineLemmas
pub mod SpacedLemmas
