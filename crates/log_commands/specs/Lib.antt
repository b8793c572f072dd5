pub mod Status
pub mod Opening
pub mod Init
pub mod Dump
pub mod Check
