pub mod Shards
pub mod Says
pub mod RowLists
