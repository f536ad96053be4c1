pub mod Rooted
pub mod Subtotal
pub mod Climb
pub mod Potential
pub mod Flow
