pub mod LogFacts
pub mod PrivateFacts
pub mod RoomFacts
pub mod TakeFacts
pub mod Steps
pub mod FormFacts
mod DatedFacts
