pub mod Taken
pub mod Spelled
pub mod Growing
pub mod Seeing
pub mod ClockSteps
pub mod RowSteps
pub mod Knowing
pub mod Sessions
