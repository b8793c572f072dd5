pub mod Rounds
pub mod Walk
pub mod Within
