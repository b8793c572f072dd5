pub mod Slots
pub mod Chains
