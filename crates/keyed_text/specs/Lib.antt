pub mod Texts
pub mod Laws
pub mod Streams
pub mod Quotes
pub mod Spelling
pub mod TextStyles
