pub mod Rule
pub mod Side
pub mod Matched
pub mod PairOf
pub mod Finding
