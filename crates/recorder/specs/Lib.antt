pub mod Recorder
pub mod Way
