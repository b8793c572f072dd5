pub mod Owners
pub mod Leaving
