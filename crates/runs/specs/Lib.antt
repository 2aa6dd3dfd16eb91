pub mod Run
pub mod Stored
