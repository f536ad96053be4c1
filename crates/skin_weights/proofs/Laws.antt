pub mod Compared
pub mod Scaled
pub mod Lists
pub mod Exact
pub mod Again
pub mod Tests
