pub mod Graph
pub mod Checks
pub mod Distance
pub mod SpanningTree
pub mod Steps
