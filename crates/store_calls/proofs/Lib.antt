pub mod Works
pub mod Records
pub mod ClockMoves
pub mod CommitMoves
pub mod Answering
