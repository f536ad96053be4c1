pub mod Accepted
pub mod Path
pub mod Edge
pub mod Formed
pub mod Connected
pub mod Distance
pub mod EdgeTree
pub mod Spanned
