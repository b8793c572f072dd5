pub mod Counts
pub mod Appending
pub mod Putting
pub mod Taking
