pub mod Report
pub mod Figures
