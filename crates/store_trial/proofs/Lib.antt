pub mod Hands
mod Crossing
