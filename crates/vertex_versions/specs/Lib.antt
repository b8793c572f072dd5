pub mod Versions
pub mod Pending
