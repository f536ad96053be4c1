pub mod SectionBytes
pub mod Held
