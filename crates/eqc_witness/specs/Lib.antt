pub mod Witnesses
pub mod Cones
pub mod Completing
