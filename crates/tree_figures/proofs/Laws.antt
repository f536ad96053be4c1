pub mod Signs
pub mod Figure
pub mod Tight
