pub mod Commands
pub mod CommandLines
