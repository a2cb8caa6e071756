pub mod ColumnCounts
pub mod Escapes
pub mod RowChanges
pub mod SaidAfter
pub mod Shown
pub mod ShownColumns
pub mod TableLines
