pub mod LogLists
pub mod Shown
pub mod OpenedLogs
