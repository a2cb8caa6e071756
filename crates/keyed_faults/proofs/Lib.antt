pub mod ApartLemmas
pub mod CodeLemmas
pub mod ShownLemmas
pub mod StillLemmas
