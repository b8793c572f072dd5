pub mod Since
pub mod Pieces
pub mod Log
pub mod Appends
pub mod Story
pub mod Fault
