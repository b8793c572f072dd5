pub mod Numbers
pub mod Fronts
pub mod FieldWrites
pub mod FieldReads
