pub mod Figures
pub mod Steps
