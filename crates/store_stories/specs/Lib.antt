pub mod AtDesk
pub mod Apart
