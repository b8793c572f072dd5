pub mod Epochs
pub mod Following
pub mod Goodness
pub mod Greatest
pub mod Lengths
pub mod Numbered
pub mod Pieces
pub mod Snapshots
