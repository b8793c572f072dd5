pub mod Rests
pub mod Listing
pub mod Rows
