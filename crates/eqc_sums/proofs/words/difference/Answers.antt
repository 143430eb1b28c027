use Rattle.std.proofs.Common.{◌-◌, ◌^◌, length, refl}
use Rattle.eqc_sums.proofs.WordLemmas.{word_more, within_more, next_factor}
use Rattle.eqc_sums.proofs.words.difference.Goals as goal

pub loop-k-preserved : goal.loop-k-preserved
loop-k-preserved c = record {
  factor = next_factor (2 ^ (128 - length c.args.ps.now)) c.loop-k.factor _ c.loop-k.k
      c.loop-k.invariant.factor refl;
  within = λ nodes first second.
      within_more nodes c.args.ps.now c.args.qs.now c.loop-k.terms.items c.push.new.self.items
      c.push-in-loop-k.new.self.items _ _ c.loop-k.k c.loop-k-test.true c.requires.same first
      second
      c.in_ok-push.ensures.items c.in_ok-push-2.ensures.items (c.loop-k.invariant.within nodes first
      second);
  sum = λ v.
      word_more v c.args.ps.now c.args.qs.now c.loop-k.terms.items c.push.new.self.items
      c.push-in-loop-k.new.self.items (2 ^ (128 - length c.args.ps.now)) c.loop-k.factor _
      c.loop-k.k
      c.loop-k-test.true c.requires.same c.loop-k.auto.factor-fits.fits c.loop-k.invariant.factor
      refl c.in_ok-push.ensures.items c.in_ok-push-2.ensures.items (c.loop-k.invariant.sum v);
}
