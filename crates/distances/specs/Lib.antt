pub mod Distances
pub mod Records
pub mod Steps
