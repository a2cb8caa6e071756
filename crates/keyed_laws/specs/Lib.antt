pub mod Laws
pub mod MarkLaws
pub mod OneSide
pub mod TextLaws
