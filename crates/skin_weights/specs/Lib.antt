pub mod Weight
pub mod Lists
pub mod Steps
