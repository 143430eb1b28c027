pub mod Contradiction
