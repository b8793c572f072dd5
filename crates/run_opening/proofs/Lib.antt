pub mod Reading
pub mod Moments
pub mod Refusals
