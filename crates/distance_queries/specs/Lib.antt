pub mod Within
pub mod Nearest
pub mod Steps
