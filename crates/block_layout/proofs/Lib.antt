pub mod Windows
pub mod Held
pub mod Raw
pub mod AtPlaces
pub mod Written
pub mod Stamped
pub mod Blocked
