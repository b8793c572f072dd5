pub mod Crews
pub mod Orders
pub mod Phases
pub mod Rooms
