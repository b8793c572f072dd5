pub mod Rows
pub mod RowMoves
pub mod Altering
pub mod Unused
pub mod AlterMoves
pub mod Making
pub mod Won
pub mod Opening
