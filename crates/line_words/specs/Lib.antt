pub mod Growth
pub mod Names
pub mod Words
