pub mod Bases
pub mod Recovery
