pub mod LiteralLaws
pub mod MovingLaws
