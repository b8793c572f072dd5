pub mod Complete
pub mod Edges
pub mod Summing
