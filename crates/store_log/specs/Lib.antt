pub mod Written
pub mod LogChanges
pub mod LogValues
pub mod LogsKept
pub mod Samples
