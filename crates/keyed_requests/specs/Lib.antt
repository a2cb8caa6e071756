pub mod AnswerForm
pub mod Delimiters
pub mod FormBytes
