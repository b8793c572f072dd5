pub mod Rows
pub mod Leasts
pub mod Nodes
pub mod KeptNodes
pub mod KeptRows
