use Rattle.eqc_numbers.proofs.cases.+are_equal_by.Given as goal

abbrev pub decreases-are_equal_by : goal.decreases-are_equal_by
decreases-are_equal_by l = l.depth
