pub mod Papers
pub mod Opened
pub mod Passes
