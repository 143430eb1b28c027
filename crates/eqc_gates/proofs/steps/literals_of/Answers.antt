use Rattle.std.proofs.Common.{arith, ap, map, sym, ◌∙◌}
use Rattle.std.proofs.lemmas.List.{take_all}
use Rattle.eqc_build.specs.Building.{reference_of}
use Rattle.eqc_gates.proofs.EnteringLaws.{found_more}
use Rattle.eqc_gates.proofs.steps.literals_of.Goals as goal

pub literal_at-requires : goal.literal_at-requires
literal_at-requires c = rw c.get.ensures (c.requires.each c.loop-c.c (omega arith))

pub loop-c-preserved : goal.loop-c-preserved
loop-c-preserved c =
    found_more c.args.table.now c.args.steps.now c.loop-c.found.items c.push.new.self.items
    c.loop-c.c c.literal_at.result (omega arith)
    c.loop-c.invariant (sym (ap (reference_of c.args.table.now) c.get.ensures)
    ∙ c.literal_at.ensures) c.in_ok-push.ensures.items

pub returns : goal.returns
returns c = c.loop-c.invariant ∙ ap (map (reference_of c.args.table.now))
    (take_all c.loop-c.c c.args.steps.now (omega arith))
