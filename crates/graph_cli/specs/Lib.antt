pub mod Running
pub mod TopCall
