use Rattle.std.proofs.Common.{◌≡◌, ◌+◌, ℕ, get_or, ap, sym, ◌∙◌, arith}
use Rattle.eqc_core.specs.View.{View}
use Rattle.eqc_core.specs.Words.{announced_words}
use Rattle.eqc_guard.specs.Rule.{counts_from}
use Rattle.eqc_guard.proofs.Closing.{read_stays, counts_one, counts_none}
use Rattle.eqc_guard.proofs.worker.Worker.tally.Goals as goal
use Rattle.eqc_guard.proofs.worker.Worker.tally.Goals.{then-load_count-gt0, else-load_count-gt0}

pub loop-k-preserved : goal.loop-k-preserved
loop-k-preserved c = elim c.if-load_count-gt0.branch [
  | then-load_count-gt0 w ↦ record {
    core = c.load_count.ensures.step.known.core ∙ c.loop-k.invariant.core;
    few = let e = w.counted-is in let f = c.loop-k.invariant.few in omega arith;
    exact = λ ws has.
        let before = c.loop-k.invariant.exact ws has in
        let read =
        read_stays c.loop-k.self.known c.load_count.new.self.known
        (counts_from c.loop-k.self.known.core.sizes + (c.loop-k.k + 2))
        c.load_count.result ws c.load_count.ensures.copies before.0 in
        let place : counts_from c.loop-k.self.known.core.sizes + (c.loop-k.k + 2)
        ≡ counts_from c.args.self.now.known.core.sizes + 2 + c.loop-k.k =
        let e = ap (λ (v : View). announced_words v.sizes) c.loop-k.invariant.core in
        omega arith in
        let found : get_or ws (counts_from c.args.self.now.known.core.sizes + 2 + c.loop-k.k) 0
        ≡ c.load_count.result = ap (λ (i : ℕ). get_or ws i 0) (sym place) ∙ read.1 in (
          read.0,
          counts_one ws (counts_from c.args.self.now.known.core.sizes + 2) c.loop-k.k
              c.if-load_count-gt0.counted c.loop-k.counted before.1
              (let t = w.if-load_count-gt0.true in omega arith) w.counted-is,
        );
  }
  | else-load_count-gt0 w ↦ record {
    core = c.load_count.ensures.step.known.core ∙ c.loop-k.invariant.core;
    few = let e = w.counted-is in let f = c.loop-k.invariant.few in omega arith;
    exact = λ ws has.
        let before = c.loop-k.invariant.exact ws has in
        let read =
        read_stays c.loop-k.self.known c.load_count.new.self.known
        (counts_from c.loop-k.self.known.core.sizes + (c.loop-k.k + 2))
        c.load_count.result ws c.load_count.ensures.copies before.0 in
        let place : counts_from c.loop-k.self.known.core.sizes + (c.loop-k.k + 2)
        ≡ counts_from c.args.self.now.known.core.sizes + 2 + c.loop-k.k =
        let e = ap (λ (v : View). announced_words v.sizes) c.loop-k.invariant.core in
        omega arith in
        let found : get_or ws (counts_from c.args.self.now.known.core.sizes + 2 + c.loop-k.k) 0
        ≡ c.load_count.result = ap (λ (i : ℕ). get_or ws i 0) (sym place) ∙ read.1 in (
          read.0,
          counts_none ws (counts_from c.args.self.now.known.core.sizes + 2) c.loop-k.k
              c.if-load_count-gt0.counted c.loop-k.counted before.1
              (let t = w.if-load_count-gt0.false in omega arith) w.counted-is,
        );
  }
]
