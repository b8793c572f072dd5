pub mod OwnerFacts
