pub mod CommonAncestor
pub mod Leaving
