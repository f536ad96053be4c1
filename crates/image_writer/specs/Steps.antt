pub mod Size
pub mod Writable
