pub mod Device
pub mod Filter
pub mod Way
