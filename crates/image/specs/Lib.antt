pub mod Image
pub mod ImageChecks
pub mod Contents
