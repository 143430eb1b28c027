use Rattle.std.proofs.Common.{◌<◌, length, sym}
use Rattle.std.proofs.lemmas.List.Elements.{All-get_or}
use Rattle.eqc_datapath.proofs.AddingLaws.{asking_more}
use Rattle.eqc_datapath.proofs.adding.literals_of.Goals as goal

pub outputs-preserved : goal.outputs-preserved
outputs-preserved c =
    let word = c.args.word.now in
    let k = c.outputs.k in
    let ps = c.outputs.firsts.items in
    let qs = c.outputs.seconds.items in
    let x = c.in-Some.x in
    let y = c.in-Some-literal_of.y in
    record {
      asking = rw c.in_ok-push.ensures.items (rw c.in_ok-push-2.ensures.items
          (asking_more c.args.steps.now c.args.literals.now word ps qs c.roots-roots.result k x y
          (All-get_or (λ o. o < length c.args.steps.now.pair.first.outputs) word k 0
          c.outputs-test.true c.requires.outputs) c.roots-roots.ensures (sym c.in-Some.ensures)
          (sym c.in-Some-literal_of.ensures)
          c.outputs.invariant.asking));
    }
