pub mod Connecting
