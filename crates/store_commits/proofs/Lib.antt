pub mod Waited
pub mod Applied
pub mod Seen
pub mod Committed
pub mod Firsts
pub mod Finished
