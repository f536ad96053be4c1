pub mod BestTree
pub mod Solve
