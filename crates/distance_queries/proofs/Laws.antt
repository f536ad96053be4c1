pub mod Checked
pub mod Within
pub mod Nearest
