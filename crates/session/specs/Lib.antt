pub mod LineActs
pub mod Session
pub mod Way
