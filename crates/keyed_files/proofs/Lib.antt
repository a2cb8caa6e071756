pub mod BufferLemmas
pub mod LineLemmas
pub mod PartLemmas
pub mod ReadingLemmas
pub mod SpelledLemmas
pub mod TableLemmas
pub mod WritingLemmas
