pub mod Numbers
pub mod Pieces
pub mod Verdicts
pub mod Notes
pub mod Begins
pub mod Samples
