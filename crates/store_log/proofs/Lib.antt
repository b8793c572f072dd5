pub mod Durables
pub mod Keeping
pub mod Leaders
pub mod Passes
