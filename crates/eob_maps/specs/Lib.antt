-- The words of maps that are merged.
pub mod Merges
