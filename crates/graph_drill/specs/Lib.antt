pub mod Scripts
pub mod Sessions
pub mod Summary
pub mod Totals
