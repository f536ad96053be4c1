pub mod Preorder
pub mod Steps
