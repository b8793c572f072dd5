pub mod Events
pub mod OneRow
pub mod Loads
pub mod Listing
pub mod Plain
