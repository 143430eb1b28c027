pub mod Matching
pub mod Making
pub mod Narrowing
pub mod Table
pub mod Splitting
pub mod Splits
