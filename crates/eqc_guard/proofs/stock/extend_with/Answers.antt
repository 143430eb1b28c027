use Rattle.std.proofs.Common.{◌+◌, vec_len, ap, arith}
use Rattle.eqc_guard.proofs.Stocking.{filled_up}
use Rattle.eqc_guard.proofs.stock.extend_with.Goals as goal

pub returns : goal.returns
returns c =
    filled_up c.resize.result c.args.words.now.items c.resize.new.self.items c.args.word c.args.n
    (vec_len c.args.words.now)
    (c.len.result + c.args.n) (omega (arith, c.args.words.now.ok.0)) (ap (λ k. k + c.args.n)
    c.len.ensures) c.resize.ensures.items
