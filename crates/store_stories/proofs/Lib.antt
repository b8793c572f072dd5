pub mod Desks
pub mod Pairs
