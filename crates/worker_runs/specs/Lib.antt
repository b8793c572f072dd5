pub mod Ahead
pub mod Notes
pub mod Runs
