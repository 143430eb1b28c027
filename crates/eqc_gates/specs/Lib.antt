pub mod Literals
pub mod Entering
