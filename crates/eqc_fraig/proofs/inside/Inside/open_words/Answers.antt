use Rattle.std.proofs.Common.{◌∙◌, ◌<◌, ℕ, length, subst, Vec, Global}
use Rattle.std.specs.List.{All}
use Rattle.std.proofs.lemmas.List.Elements.{All-push}
use Rattle.eqc_pair.specs.PairOf.{PairOf}
use Rattle.eqc_fraig.proofs.inside.Inside.open_words.Goals as goal
use Rattle.eqc_fraig.proofs.inside.Inside.open_words.Goals.{then-len-gt0+in_ok-push, else-len-gt0}

pub loop-k-preserved : goal.loop-k-preserved
loop-k-preserved c =
    let part = c.in_ok-part.part in
    let within : PairOf → Vec ℕ Global → Type 0 = λ p w. All (λ o. o < length p.first.outputs)
    w.items in
    let is : within c.args.self.now part = subst (λ p. within p part) c.loop-k.invariant.pair
    c.in_ok-part.ensures.outputs in
    elim c.if-len-gt0.branch [
      | then-len-gt0+in_ok-push w ↦ record {
        pair = c.open_part.ensures.pair ∙ c.loop-k.invariant.pair;
        outputs = rw (w.open-is, w.in_ok-push.ensures.items) (All-push (within c.args.self.now)
            c.loop-k.open.items part c.loop-k.invariant.outputs is);
      }
      | else-len-gt0 w ↦ record {
        pair = c.open_part.ensures.pair ∙ c.loop-k.invariant.pair;
        outputs = rw w.open-is c.loop-k.invariant.outputs;
      }
    ]
