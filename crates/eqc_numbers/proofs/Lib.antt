pub mod ChainLemmas
pub mod ShownLaws
pub mod CasesLaws
pub mod CutLaws
