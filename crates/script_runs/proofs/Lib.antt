pub mod Closings
pub mod Logging
