pub mod Places
pub mod Signs
pub mod Bodies
pub mod Same
pub mod Again
pub mod Checks
