pub mod Cases
pub mod Fills
pub mod Tables
