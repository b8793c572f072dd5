pub mod Filters
pub mod Headers
pub mod Changed
pub mod Past
pub mod Spelled
