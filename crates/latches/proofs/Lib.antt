pub mod Packed
pub mod Masks
pub mod Tallied
