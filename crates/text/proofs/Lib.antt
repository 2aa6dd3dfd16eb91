pub mod Places
pub mod Decimal
pub mod Lines
pub mod Apart
