pub mod ClauseLemmas
pub mod StoreLemmas
pub mod LeftLemmas
