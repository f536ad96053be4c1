pub mod Signed
pub mod Buffer
pub mod Placed
pub mod Byte
pub mod Holds
