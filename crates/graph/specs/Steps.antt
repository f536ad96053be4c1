pub mod Accepted
pub mod Path
pub mod EdgeTree
