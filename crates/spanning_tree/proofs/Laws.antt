pub mod TreeValue
pub mod Valid
