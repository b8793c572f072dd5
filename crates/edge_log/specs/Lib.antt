pub mod Entries
pub mod Places
pub mod Contents
pub mod Parts
pub mod Rooms
pub mod Spans
pub mod Slots
pub mod Plain
