pub mod Read
pub mod Reading
pub mod Steps
