pub mod Contents
pub mod Logs
pub mod RowLogs
pub mod ReadRows
pub mod Fresh
pub mod Elsewhere
