use Rattle.std.proofs.Common.{◌-◌, length, ap, sym, ◌∙◌, arith}
use Rattle.eqc_parallel.specs.Ticket.{times, strangers}
use Rattle.eqc_parallel.proofs.ShareLemmas.{outputs_once}
use Rattle.eqc_parallel.proofs.members.verdicts_of.Goals as goal

pub returns : goal.returns
returns c =
    let s = c.requires.share in
    let m = length c.args.pair.now.first.outputs in record {
      once = λ x.
          ap (times x) s.each ∙ outputs_once m c.settle.result c.args.share.seat.me.0.drawn
          c.settle.ensures.once
          (ap (λ k. strangers k c.args.share.seat.me.0.drawn) (sym c.requires.key)
          ∙ (c.settle.ensures.beyond ∙ ap (λ k. c.settle.result - k) c.requires.key))
          (omega (arith, s.done, c.requires.some)) x;
      right = s.right;
    }
