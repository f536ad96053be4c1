pub mod Lowest
pub mod Steps
