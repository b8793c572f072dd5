pub mod Trading
pub mod Pending
pub mod Openings
