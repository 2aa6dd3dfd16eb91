pub mod Check
pub mod Frame
pub mod Reply
pub mod Way
