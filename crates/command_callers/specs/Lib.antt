pub mod Answered
pub mod Cases
pub mod Keys
pub mod Repeats
pub mod Shown
pub mod Unopened
