pub mod Making
pub mod Peeking
