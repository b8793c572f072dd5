pub mod Good
pub mod Tellings
pub mod Bounds
