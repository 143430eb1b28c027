use Rattle.eqc_numbers.proofs.compared.+are_found_equal_in.Given as goal

abbrev pub decreases-are_found_equal_in : goal.decreases-are_found_equal_in
decreases-are_found_equal_in l = l.left
