pub mod Clauses
pub mod Checking
