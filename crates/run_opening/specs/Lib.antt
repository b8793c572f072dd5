pub mod Script
pub mod Moments
pub mod Opening
pub mod Drill
