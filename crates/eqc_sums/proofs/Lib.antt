pub mod FormLemmas
pub mod GateLemmas
pub mod StepLemmas
pub mod WordLemmas
pub mod KeepLemmas
pub mod PolynomialLemmas
