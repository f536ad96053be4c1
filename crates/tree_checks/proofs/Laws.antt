pub mod TreeTests
pub mod Doubling
pub mod Edges
