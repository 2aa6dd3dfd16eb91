pub mod Lent
pub mod Contracts
