pub mod Text
pub mod Shown
pub mod Way
