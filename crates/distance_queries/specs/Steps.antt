pub mod Checked
pub mod Nearer
