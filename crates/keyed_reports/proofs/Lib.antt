pub mod EscapeLemmas
pub mod RowLaws
pub mod RowLemmas
pub mod TableLemmas
