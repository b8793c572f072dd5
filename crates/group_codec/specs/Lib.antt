pub mod Spelling
pub mod Reading
pub mod Log
pub mod Judging
pub mod NumberSets
