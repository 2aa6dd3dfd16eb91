pub mod Reading
pub mod Line
pub mod Way
