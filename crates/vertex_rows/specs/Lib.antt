pub mod Blocks
pub mod Owned
pub mod RowIn
