pub mod Ready
pub mod Changed
pub mod Shown
pub mod Ended
pub mod Answered
pub mod Full
