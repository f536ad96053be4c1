pub mod Decimal
pub mod Steps
