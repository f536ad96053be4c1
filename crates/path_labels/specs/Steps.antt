pub mod Weight
pub mod ShortestPathTree
pub mod Labels
