-- The words of counts and sums.
pub mod Sums
