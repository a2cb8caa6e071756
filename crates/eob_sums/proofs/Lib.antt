pub mod SumLemmas
pub mod RowLemmas
