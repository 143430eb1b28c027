pub mod AddingLaws
pub mod InnerLaws
