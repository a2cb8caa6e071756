pub mod GrowthLemmas
pub mod NameLemmas
pub mod PartLemmas
pub mod WordLemmas
