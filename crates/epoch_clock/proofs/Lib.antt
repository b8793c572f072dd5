pub mod Rows
pub mod Outcomes
pub mod Counting
pub mod Keeping
pub mod Events
