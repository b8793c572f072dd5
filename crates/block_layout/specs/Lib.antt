pub mod Sizes
pub mod Rows
pub mod Blocks
pub mod Reads
pub mod Writes
