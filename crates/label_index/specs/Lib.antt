pub mod Labels
pub mod Lists
pub mod Indexes
