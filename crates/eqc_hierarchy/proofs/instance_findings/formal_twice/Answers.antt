use Rattle.std.proofs.Common.{◌≡◌, ◌<◌, ◌∙◌, map, take, true, sym, ap, subst, arith, get_or, length}
use Rattle.std.proofs.Common.{[], ℕ, List}
use Rattle.std.specs.Prelude.{slice_index_or}
use Rattle.std.proofs.lemmas.List.{get_or_default}
use Rattle.eqc_netlist.specs.Names.{is_named}
use Rattle.eqc_blif.specs.Netlist.{InstanceOf}
use Rattle.eqc_hierarchy.specs.InstanceFinding.{IsRepeatedFormal}
use Rattle.eqc_hierarchy.proofs.FaultLaws.{formal_repeated, repeated_is}
use Rattle.eqc_hierarchy.proofs.instance_findings.formal_twice.Goals as goal

pub first_at_fault-requires-clause-some : goal.first_at_fault-requires-clause-some
first_at_fault-requires-clause-some c = formal_repeated c.args.library.now c.args.top
    c.requires.refused

pub returns : goal.returns
returns c =
    let library = c.args.library.now in
    let top = c.args.top in
    let i = c.in_ok-found.found.1 in
    let k = c.unwrap-k.result in
    let same : c.instance.inside.pairs.items ≡ i.pairs =
    ap (λ (j : InstanceOf). j.pairs) (c.instance.view_is ∙ c.instance-instance.ensures) in
    let P : List (List ℕ × List ℕ) → Type 0 = λ pairs. (k < length pairs)
    × (is_named (map (λ (pair : List ℕ × List ℕ). pair.0) (take k pairs))
    (slice_index_or pairs k ([], [])).0 ≡ true) in
    let first = subst P (c.deref.ensures.value
    ∙ same) (rw c.unwrap-k.ensures at c.in_ok-repeated.ensures.first) in
    let known = repeated_is i k first.0 first.1 in
    let formal : c.as_bytes-formal.result.now ≡ (get_or i.pairs k ([], [])).0 =
    c.as_bytes-formal.ensures
    ∙ ap (λ (pair : List ℕ × List ℕ). pair.0)
    (c.index.ensures
    ∙ (get_or_default c.instance.inside.pairs.items k c.index.result.now ([], [])
    (omega (arith, first.0, ap length same))
    ∙ ap (λ (pairs : List (List ℕ × List ℕ)). get_or pairs k ([], [])) same)) in
    let Q : List ℕ → Type 0 = λ name. IsRepeatedFormal library top (c.in_ok-found.found, name) in
    let R : ((ℕ × ℕ) × InstanceOf) × List ℕ → Type 0 = λ r. IsRepeatedFormal library top r in
    subst R (sym c.new.ensures) (subst Q (sym formal) (c.in_ok-found.ensures.stands, known))
