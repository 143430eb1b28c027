pub mod MiterLaws
pub mod AskingLaws
pub mod EnteringLaws
