pub mod Noted
pub mod Indexed
