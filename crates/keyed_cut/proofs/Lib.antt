pub mod CountLemmas
pub mod ListingLawLemmas
pub mod ListingLemmas
pub mod ListingTextLemmas
pub mod OrderLemmas
pub mod PartitionLemmas
pub mod SinkLemmas
