pub mod Commands
pub mod Texts
pub mod Answers
