pub mod ImageBytes
pub mod WriteImage
pub mod Steps
