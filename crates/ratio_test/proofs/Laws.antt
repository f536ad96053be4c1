pub mod CommonAncestor
pub mod Leaving
pub mod Candidates
pub mod Exchange
