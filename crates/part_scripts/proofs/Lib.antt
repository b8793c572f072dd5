pub mod Acts
pub mod States
