pub mod Check
pub mod Way
