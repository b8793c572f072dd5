pub mod Complete
pub mod Nothing
