pub mod Split
pub mod Every
pub mod Fill
pub mod Below
pub mod Each
pub mod Marks
