pub mod Theorem
pub mod Best
