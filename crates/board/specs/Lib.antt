pub mod Plan
pub mod Shunt
pub mod Host
pub mod Latchings
pub mod Sample
pub mod Way
