pub mod Latches
pub mod Control
pub mod Tallies
