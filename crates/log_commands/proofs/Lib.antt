pub mod Asked
pub mod EdgeCounts
pub mod Ending
pub mod Printing
