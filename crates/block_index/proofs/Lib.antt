pub mod FindLemmas
pub mod PlaceFacts
pub mod IndexFacts
pub mod PropsLemmas
