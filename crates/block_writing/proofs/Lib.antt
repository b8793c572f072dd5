pub mod Overwrites
pub mod Begun
pub mod Rewritten
pub mod Settled
pub mod Added
pub mod Copied
pub mod Kept
