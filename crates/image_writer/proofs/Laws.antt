pub mod Size
pub mod Accepted
pub mod Whole
pub mod Contents
pub mod OneImage
