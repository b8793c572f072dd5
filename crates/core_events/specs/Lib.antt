pub mod Calls
pub mod CoreLogs
