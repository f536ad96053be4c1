pub mod Table
pub mod Fill
pub mod Product
pub mod Mask
pub mod Matrix
