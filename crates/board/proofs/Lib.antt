pub mod Signed
pub mod Laws
pub mod Entering
pub mod Unmoved
pub mod Looking
pub mod Counts
