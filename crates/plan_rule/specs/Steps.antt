pub mod Taken
pub mod Agreement
