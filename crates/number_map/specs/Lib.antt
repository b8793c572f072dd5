pub mod KeptAt
pub mod Lends
