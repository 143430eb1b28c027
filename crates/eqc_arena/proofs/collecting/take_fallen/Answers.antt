use Rattle.std.proofs.Common.{◌≡◌, ℕ, ◌+◌, [], if◌then◌else◌, subst, arith}
use Rattle.eqc_arena.specs.Changing.{Exchanges}
use Rattle.eqc_arena.specs.Emptying.{IsBetween}
use Rattle.eqc_arena.proofs.Changing.{stays, still, here}
use Rattle.eqc_arena.proofs.collecting.take_fallen.Goals as goal
use Rattle.eqc_arena.proofs.collecting.take_fallen.Goals.{then-take_word, else-take_word}

pub loop-try-init : goal.loop-try-init
loop-try-init g c = record {
  few = omega arith;
  changes = stays c.args.worker.now c.recall_laws.ensures;
  takes = λ n s taken b. let same : taken ≡ taken + 0 = omega arith in
      subst (λ (m : ℕ). IsBetween [] n s m c.args.worker.now.known) same b;
}

pub loop-try-preserved : goal.loop-try-preserved
loop-try-preserved g c =
    let t : Exchanges [] [] c.args.worker.now c.take_word.new.worker =
    still c.loop-try.invariant.changes (here c.loop-try.invariant.changes
    c.take_word.ensures.changes) in
    elim c.if-take_word.branch [
      | then-take_word w ↦ record {
        few = let e = w.taken-is in let f = c.loop-try.invariant.few in omega arith;
        changes = t;
        takes = λ n s taken b.
            let more : taken + c.loop-try.taken + (if c.take_word.result then 1 else 0) ≡ taken
            + c.if-take_word.taken = rw w.if-take_word.true (let e = w.taken-is in omega arith) in
            subst (λ (m : ℕ). IsBetween [] n s m c.take_word.new.worker.known) more
            (c.take_word.ensures.takes n s (taken + c.loop-try.taken) (c.loop-try.invariant.takes
            n s taken b));
      }
      | else-take_word w ↦ record {
        few = let e = w.taken-is in let f = c.loop-try.invariant.few in omega arith;
        changes = t;
        takes = λ n s taken b.
            let more : taken + c.loop-try.taken + (if c.take_word.result then 1 else 0) ≡ taken
            + c.if-take_word.taken = rw w.if-take_word.false (let e = w.taken-is in omega arith)
            in
            subst (λ (m : ℕ). IsBetween [] n s m c.take_word.new.worker.known) more
            (c.take_word.ensures.takes n s (taken + c.loop-try.taken) (c.loop-try.invariant.takes
            n s taken b));
      }
    ]
