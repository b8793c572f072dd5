pub mod Trimmed
pub mod Settled
