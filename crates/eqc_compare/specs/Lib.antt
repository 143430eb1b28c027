pub mod Verdict
pub mod VerdictLaws
pub mod Assigned
pub mod Comparing
pub mod Alike
