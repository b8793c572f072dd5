pub mod SpanLemmas
pub mod PlaceLemmas
pub mod EntryLemmas
pub mod SlotLemmas
pub mod BlockLemmas
pub mod ReachLemmas
