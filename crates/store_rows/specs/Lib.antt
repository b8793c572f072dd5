pub mod ShardValues
pub mod ShardsKept
pub mod Alters
pub mod Makes
