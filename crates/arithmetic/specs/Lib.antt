pub mod Bools
pub mod Table
pub mod Sum
pub mod Integer
pub mod Mask
pub mod Refusal
pub mod Steps
