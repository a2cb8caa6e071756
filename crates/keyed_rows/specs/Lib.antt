pub mod Beginning
pub mod Held
pub mod Kept
pub mod Layout
