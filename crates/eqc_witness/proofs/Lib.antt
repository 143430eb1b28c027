pub mod BeginningLemmas
pub mod CopyLemmas
pub mod ConeLemmas
pub mod ValueLemmas
pub mod WitnessLemmas
