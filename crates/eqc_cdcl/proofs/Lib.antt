pub mod ContradictionLemmas
