pub mod Gathering
pub mod Roots
pub mod Blanks
pub mod RowLeasts
pub mod Views
