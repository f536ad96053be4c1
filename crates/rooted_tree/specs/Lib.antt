pub mod Chain
pub mod Steps
