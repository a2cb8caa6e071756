pub mod Boundaries
pub mod Parts
