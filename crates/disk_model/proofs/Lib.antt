pub mod Recordings
pub mod Chosen
pub mod Paces
pub mod Crashes
pub mod GoingOn
