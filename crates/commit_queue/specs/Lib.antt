pub mod Waiting
pub mod Shown
pub mod KeptOutcomes
pub mod ShownOutcomes
