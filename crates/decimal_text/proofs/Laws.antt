pub mod Wrote
pub mod Decimal
pub mod Signed
