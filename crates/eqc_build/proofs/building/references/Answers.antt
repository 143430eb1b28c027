use Rattle.std.proofs.Common.{arith, ap, map, sym, ◌∙◌}
use Rattle.std.proofs.lemmas.List.{take_all}
use Rattle.eqc_build.specs.Building.{reference_of}
use Rattle.eqc_build.proofs.BuildLaws.{found_more}
use Rattle.eqc_build.proofs.building.references.Goals as goal

pub reference_at-requires-clause-some : goal.reference_at-requires-clause-some
reference_at-requires-clause-some g c =
    rw c.get.ensures (c.requires.ready.each c.loop-k.k (omega arith))

pub loop-k-preserved : goal.loop-k-preserved
loop-k-preserved g c =
    found_more c.args.table.now c.args.steps.now c.loop-k.k c.loop-k.found.items
    c.push.new.self.items c.reference_at.result (omega arith)
    c.loop-k.invariant (sym (ap (reference_of c.args.table.now) c.get.ensures)
    ∙ c.reference_at.ensures) c.in_ok-push.ensures.items

pub returns : goal.returns
returns g c = c.loop-k.invariant ∙ ap (map (reference_of c.args.table.now))
    (take_all c.loop-k.k c.args.steps.now (omega arith))
