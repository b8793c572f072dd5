pub mod Report
pub mod Ran
pub mod Ending
