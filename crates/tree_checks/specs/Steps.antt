pub mod TreeTests
pub mod ParentEdges
pub mod Doubling
