pub mod DigitLemmas
pub mod AlignedLemmas
pub mod NearLemmas
pub mod TextLemmas
