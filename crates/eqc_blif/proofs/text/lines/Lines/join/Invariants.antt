use Rattle.std.proofs.Common.{◌≡◌, ℕ, ◌≤◌, ◌∷◌, length}
use Rattle.eqc_blif.specs.Lines.{joined, onto_next}
use Rattle.eqc_blif.proofs.text.lines.Lines.join.Given as goal

abbrev pub invariant-pieces : goal.invariant-pieces
invariant-pieces l = record {
  shorter : length l.self ≤ length l.fn.self;
  joined : (n m : ℕ) → onto_next n l.line.items (joined ((m, l.piece) ∷ l.self))
      ≡ joined ((n, l.fn.first) ∷ l.fn.self);
}

abbrev pub decreases-pieces : goal.decreases-pieces
decreases-pieces l = length l.self
