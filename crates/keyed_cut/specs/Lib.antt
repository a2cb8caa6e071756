pub mod Counted
pub mod Listing
pub mod Partitioned
