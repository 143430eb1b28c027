use Rattle.eqc_plain.proofs.terminal.decide.Goals as goal

pub returns-in-And-clause-undecided : goal.returns-in-And-clause-undecided
returns-in-And-clause-undecided c = rw c.in-And.is c.decide_and.ensures.undecided

pub returns-in-Or-clause-undecided : goal.returns-in-Or-clause-undecided
returns-in-Or-clause-undecided c = rw c.in-Or.is c.decide_or.ensures.undecided

pub returns-in-Xor-clause-undecided : goal.returns-in-Xor-clause-undecided
returns-in-Xor-clause-undecided c = rw c.in-Xor.is c.decide_xor.ensures.undecided

pub returns-in-AndNot-clause-undecided : goal.returns-in-AndNot-clause-undecided
returns-in-AndNot-clause-undecided c = rw c.in-AndNot.is c.decide_and_not.ensures.undecided
