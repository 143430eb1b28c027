use Rattle.eqc_numbers.proofs.chains.+chain.Given as goal

abbrev pub decreases-chain : goal.decreases-chain
decreases-chain l = l.depth
