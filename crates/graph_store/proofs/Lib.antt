pub mod Heard
pub mod Shown
pub mod Closes
pub mod Holding
