pub mod Words
pub mod Lowest
pub mod Without
pub mod Shift
pub mod Layers
