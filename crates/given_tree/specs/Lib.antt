pub mod Given
pub mod Steps
