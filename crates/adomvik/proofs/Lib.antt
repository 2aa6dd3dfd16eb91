pub mod OnPlace
pub mod TellsRow
pub mod TellsOne
pub mod TellsBeside
pub mod Laws
pub mod Contracts
