pub mod Undoing
pub mod Changing
pub mod Beginning
pub mod Reading
pub mod Making
