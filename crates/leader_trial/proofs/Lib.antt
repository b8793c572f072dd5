pub mod Leading
pub mod Working
pub mod Opens
