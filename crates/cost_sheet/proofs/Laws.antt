pub mod Figures
pub mod Sheet
