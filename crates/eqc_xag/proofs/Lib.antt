pub mod GraphLemmas
pub mod LiteralLemmas
