-- The words of the recipes' contracts.
pub mod Cells
pub mod Findings
