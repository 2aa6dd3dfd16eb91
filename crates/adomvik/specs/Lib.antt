pub mod Placed
pub mod Calls
