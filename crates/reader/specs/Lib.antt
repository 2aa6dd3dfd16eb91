pub mod Kinds
pub mod Reader
pub mod Told
pub mod Way
