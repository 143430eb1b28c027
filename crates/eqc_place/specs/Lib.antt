pub mod Allowed
pub mod Places
pub mod Values
