pub mod Ahead
pub mod Sessions
pub mod Workers
pub mod AllWorkers
pub mod Order
pub mod Closes
pub mod Noting
pub mod Example
