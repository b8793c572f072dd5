pub mod Members
pub mod Doing
pub mod Collects
pub mod Ends
pub mod Knowing
pub mod Between
pub mod Giving
