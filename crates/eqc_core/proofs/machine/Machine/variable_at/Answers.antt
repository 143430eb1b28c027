use Rattle.std.proofs.Common.{◌/◌, ◌^◌, ◌≤◌, ap, arith}
use Rattle.std.proofs.lemmas.Bool.{le-ltb}
use Rattle.std.proofs.lemmas.List.{get_or_read}
use Rattle.eqc_core.specs.Words.{variable_of}
use Rattle.eqc_core.proofs.machine.Machine.variable_at.Goals as goal

pub returns : goal.returns
unfolding variable_of
returns c =
    let x = c.args.x in
    let read = get_or_read c.args.self.now.nodes.items x c.index.result.now c.requires
    c.index.ensures 0 in
    let two : 2 ≤ x = (let a = c.if-x-lt2.false in omega arith) in
    rw (le-ltb x 2 two) (ap (λ n. n / 2 ^ 40) read)
