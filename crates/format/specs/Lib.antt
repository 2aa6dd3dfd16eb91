pub mod Format
pub mod Read
pub mod Worked
