pub mod LiteralLaws
pub mod MarkLaws
pub mod EnteringLaws
