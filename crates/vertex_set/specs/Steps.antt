pub mod Sets
pub mod Shift
pub mod Tested
