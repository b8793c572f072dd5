pub mod RowLists
pub mod Places
pub mod Past
