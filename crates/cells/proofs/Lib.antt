pub mod Bleed
pub mod Sets
pub mod Ends
pub mod Gather
pub mod Laws
pub mod Stays
