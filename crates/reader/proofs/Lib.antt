pub mod Numbers
pub mod Told
pub mod Steps
pub mod Many
pub mod Whole
