pub mod RoundTrip
pub mod TextLemmas
pub mod QuoteLemmas
pub mod SpellingLemmas
pub mod WriteLemmas
pub mod ReadLemmas
pub mod StyleLemmas
pub mod HeadLemmas
