use Rattle.std.proofs.Common.{◌≡◌, ℕ, ◌+◌, ◌-◌, ◌*◌, ◌%◌, ◌^◌, ◌<◌, Bool, List, length, take}
use Rattle.std.specs.List.{All}
use Rattle.eqc_xag.specs.declared.node.Node.{Node}
use Rattle.eqc_xag.specs.Graph.{IsWithin}
use Rattle.eqc_sums.specs.Forms.{terms_sum}
use Rattle.eqc_sums.specs.Adding.{number}
use Rattle.eqc_sums.proofs.words.difference.Given as goal

abbrev pub invariant-loop-k : goal.invariant-loop-k
invariant-loop-k l = record {
  factor : l.factor ≡ (2 ^ (128 - length l.ps) * 2 ^ l.k) % 2 ^ 128;
  within : (nodes : List Node) → All (IsWithin nodes) l.ps → All (IsWithin nodes) l.qs
      → All (λ t. IsWithin nodes t.literal) l.terms.items;
  sum : (v : ℕ → Bool) → (terms_sum v l.terms.items + 2 ^ (128 - length l.ps) * number v
      (take l.k l.qs)) % 2 ^ 128 ≡ (2 ^ (128 - length l.ps) * number v (take l.k l.ps)) % 2 ^ 128;
}
