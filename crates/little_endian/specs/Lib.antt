pub mod LittleEndian
pub mod Steps
