use Rattle.std.proofs.Common.{◌≡◌, ◌<◌, List, length, subst, true}
use Rattle.std.specs.Prelude.{slice_index_or}
use Rattle.eqc_blif.specs.Netlist.{InstanceOf}
use Rattle.eqc_hierarchy.specs.Reaching.{no_instance}
use Rattle.eqc_netlist.proofs.Members.{among_at}
use Rattle.eqc_hierarchy.proofs.condition.first_instance.Goals as goal

pub returns-in-Some-clause-first : goal.returns-in-Some-clause-first
returns-in-Some-clause-first g c =
    let P : List InstanceOf → Type 0 = λ l. (c.in-Some.position < length l)
    × (g.C.Condition.test c.args.condition.now (slice_index_or l c.in-Some.position no_instance)
    ≡ true) in
    let found = subst P c.instances.ensures (rw c.in-Some.is at c.in_ok-position.ensures.first) in
    (among_at c.args.models.now c.models.m-index c.models-test.true, found.0, found.1)
