pub mod Filters
