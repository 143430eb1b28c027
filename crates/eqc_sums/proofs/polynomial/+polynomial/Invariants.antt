use Rattle.eqc_sums.proofs.polynomial.+polynomial.Given as goal

abbrev pub decreases-polynomial : goal.decreases-polynomial
decreases-polynomial l = l.depth
