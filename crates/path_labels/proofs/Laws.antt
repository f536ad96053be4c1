pub mod ShortestPath
pub mod Labelling
