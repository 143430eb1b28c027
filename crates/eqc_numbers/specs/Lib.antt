pub mod Chains
pub mod Copies
pub mod Cases
pub mod Cuts
