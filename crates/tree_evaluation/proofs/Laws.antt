pub mod GivenTree
pub mod Evaluate
