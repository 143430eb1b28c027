use Rattle.std.proofs.Common.{◌≡◌, ◌<◌, length}
use Rattle.std.specs.List.{All}
use Rattle.eqc_fraig.proofs.inside.Inside.open_part.Given as goal

abbrev pub invariant-loop-k : goal.invariant-loop-k
invariant-loop-k l = record {
  pair : l.self ≡ l.initial.self;
  outputs : All (λ o. o < length l.initial.self.first.outputs) l.part.items;
}
