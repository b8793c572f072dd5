pub mod Running
pub mod Parts
