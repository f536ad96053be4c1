pub mod Order
pub mod Vertices
pub mod Printing
