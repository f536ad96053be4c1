pub mod Relaxing
pub mod Search
