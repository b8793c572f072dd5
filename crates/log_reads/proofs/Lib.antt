pub mod PartEdges
