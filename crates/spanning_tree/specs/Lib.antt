pub mod Tree
pub mod TreeValue
