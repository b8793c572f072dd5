pub mod BitLemmas
pub mod PlaceLemmas
pub mod HoldsLemmas
