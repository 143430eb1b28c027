pub mod Changing
pub mod Unboxing
pub mod Nodes
pub mod Emptying
pub mod Taking
