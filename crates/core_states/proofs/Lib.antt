pub mod ListedLemmas
pub mod OwnLemmas
pub mod Names
pub mod Enabled
pub mod SessionParts
pub mod Worked
