pub mod Lines
pub mod DumpText
pub mod PlaceText
pub mod CheckText
