pub mod Found
pub mod NewSessions
pub mod Closing
pub mod Seen
pub mod Passes
