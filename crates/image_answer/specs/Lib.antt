pub mod ImageAnswer
pub mod Steps
