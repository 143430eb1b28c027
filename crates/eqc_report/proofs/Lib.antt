pub mod OptionsLemmas
pub mod KnownBytes
pub mod SpoolLemmas
pub mod ReportLemmas
pub mod WrittenLemmas
pub mod FoundLaws
pub mod EvaluationLaws
pub mod LeftLaws
