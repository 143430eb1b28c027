use Rattle.std.proofs.Common.{◌≡◌, sym, subst, ℕ, List}
use Rattle.eqc_netlist.specs.Dependency.{among}
use Rattle.eqc_hierarchy.specs.Hierarchy.{reached}
use Rattle.eqc_hierarchy.proofs.model_faults.first_model_fault.Goals as goal

pub fault_of-requires-clause-each : goal.fault_of-requires-clause-each
fault_of-requires-clause-each c =
    let P : List ℕ → Type 0 = λ l. (m : ℕ) → among l m ≡ among (reached c.args.calls.now c.args.top)
    m in
    subst P (sym c.deref.ensures.value) c.in_ok-models.ensures.each
