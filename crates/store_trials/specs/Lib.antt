pub mod AtDesk
