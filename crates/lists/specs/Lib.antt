pub mod Compare
pub mod Every
pub mod Each
pub mod Marks
