pub mod Joins
pub mod Going
