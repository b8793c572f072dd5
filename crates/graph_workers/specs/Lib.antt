pub mod Requests
pub mod Lines
pub mod Passes
pub mod Workers
pub mod Faults
