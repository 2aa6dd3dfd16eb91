pub mod Bleed
pub mod Cells
pub mod Way
