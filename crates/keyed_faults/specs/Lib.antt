pub mod Encodings
pub mod Outside
pub mod ShownCells
