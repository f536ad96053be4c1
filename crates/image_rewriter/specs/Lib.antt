pub mod Rewrite
pub mod ReadBack
