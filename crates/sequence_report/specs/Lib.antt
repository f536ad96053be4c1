pub mod Outcome
pub mod Report
pub mod Steps
