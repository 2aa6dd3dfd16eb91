pub mod Laws
pub mod Gathered
pub mod Along
pub mod Searching
pub mod Scanned
pub mod Lined
