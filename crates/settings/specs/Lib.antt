pub mod Levels
pub mod Bytes
pub mod Faults
