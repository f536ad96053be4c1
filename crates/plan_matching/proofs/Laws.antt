pub mod Progress
pub mod Matching
pub mod Sending
