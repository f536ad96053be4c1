pub mod Readable
pub mod ReadBack
pub mod Again
pub mod Rewritten
