use Rattle.eqc_gates.proofs.cover.row_literal.Goals as goal

pub all_of-requires : goal.all_of-requires
all_of-requires c = c.in_ok-asked.ensures.within _ c.requires
