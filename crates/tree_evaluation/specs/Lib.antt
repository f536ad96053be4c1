pub mod Evaluate
pub mod Outcome
pub mod Steps
