pub mod Done
pub mod Leads
pub mod Shards
pub mod Idle
