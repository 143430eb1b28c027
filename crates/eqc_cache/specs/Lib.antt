pub mod Placing
pub mod Finding
pub mod Storing
pub mod Peeking
