pub mod Tried
pub mod Answered
