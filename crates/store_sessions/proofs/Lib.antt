pub mod Undoing
pub mod Tries
pub mod DoneBy
pub mod BeginMoves
pub mod BeginSights
pub mod Shown
pub mod Rows
pub mod MakeMoves
