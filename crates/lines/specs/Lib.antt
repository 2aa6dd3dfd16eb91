pub mod Lines
pub mod Line
pub mod Way
pub mod Edges
