pub mod Layouts
pub mod RawStamps
