use Rattle.std.proofs.Common.{◌∙◌, ◌≡◌, ◌++◌, sym, ap, length, arith}
use Rattle.eqc_blif.specs.Netlist.{ModelOf}
use Rattle.eqc_hierarchy.specs.Signals.{once_each}
use Rattle.eqc_hierarchy.specs.ModelFaults.{ports}
use Rattle.eqc_hierarchy.proofs.CallLaws.{made_more, made_last, no_such}
use Rattle.eqc_hierarchy.proofs.condition.instance_conditions.put_all_ports.Goals as goal

pub loop-m-preserved : goal.loop-m-preserved
loop-m-preserved c =
    made_more (ports c.args.library.now) c.loop-m.all.items c.push.new.self.items c.loop-m.m
    c.in_ok-ports_of.field-0 c.loop-m.invariant
    c.in_ok-push.ensures.items c.in_ok-ports_of.ensures

pub returns : goal.returns
returns c =
    let end : c.loop-m.m ≡ length c.args.library.now = omega arith in
    made_last (ports c.args.library.now) c.loop-m.all.items c.push-2.new.self.items c.loop-m.m
    (length c.args.library.now) c.new.result end c.loop-m.invariant c.in_ok-push-2.ensures.items
    (c.new.ensures ∙ sym (ap (λ (m : ModelOf). once_each (m.inputs ++ m.outputs))
    (no_such c.args.library.now (length c.args.library.now) (omega arith))))
