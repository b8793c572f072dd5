pub mod Lives
pub mod RowFits
