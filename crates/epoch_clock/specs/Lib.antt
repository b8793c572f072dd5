pub mod ActiveRows
pub mod Decided
pub mod CommitRooms
pub mod EpochStates
pub mod EpochKept
pub mod ClockCalls
pub mod Events
