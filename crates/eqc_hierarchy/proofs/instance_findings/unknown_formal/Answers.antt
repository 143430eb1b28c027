use Rattle.std.proofs.Common.{◌≡◌, ◌∙◌, not, true, sym, ap, subst, arith, get_or, length, [], ℕ}
use Rattle.std.proofs.Common.{List, Option}
use Rattle.std.specs.Prelude.{position, is_some}
use Rattle.std.proofs.lemmas.List.{get_or_default}
use Rattle.eqc_netlist.specs.Names.{is_named}
use Rattle.eqc_blif.specs.Netlist.{ModelOf, InstanceOf}
use Rattle.eqc_hierarchy.specs.Hierarchy.{model_number, reached}
use Rattle.eqc_hierarchy.specs.Reaching.{some_instance_in}
use Rattle.eqc_hierarchy.specs.ModelFaults.{names_no_formal, ports}
use Rattle.eqc_hierarchy.specs.InstanceFinding.{IsUnknownFormal}
use Rattle.eqc_hierarchy.proofs.FaultLaws.{formal_unknown, unknown_known, unknown_is}
use Rattle.eqc_hierarchy.proofs.instance_findings.unknown_formal.Goals as goal

pub first_at_fault-requires-clause-some : goal.first_at_fault-requires-clause-some
first_at_fault-requires-clause-some c =
    let P : List ModelOf → Type 0 = λ l. some_instance_in c.args.library.now
    (reached c.args.library.now c.args.top) (names_no_formal l) ≡ true in
    subst P (sym c.in_ok-condition.ensures) (formal_unknown c.args.library.now c.args.top
    c.requires.refused)

pub unwrap-k-requires : goal.unwrap-k-requires
unwrap-k-requires c =
    let library = c.args.library.now in
    let i = c.in_ok-found.found.1 in
    let P : List ModelOf → Type 0 = λ l. names_no_formal l i ≡ true in
    let first : c.first_unknown.result ≡ position (λ (pair : List ℕ
    × List ℕ). not (is_named (ports library (model_number library i.model)) pair.0)) i.pairs =
    c.first_unknown.ensures
    ∙ (ap (λ (j : InstanceOf).
    position (λ (pair : List ℕ × List ℕ).
    not (is_named (ports c.in_ok-condition.condition (model_number c.in_ok-condition.condition
    j.model)) pair.0))
    j.pairs) c.instance-instance.ensures
    ∙ ap (λ (l : List ModelOf). position (λ (pair : List ℕ
    × List ℕ). not (is_named (ports l (model_number l i.model)) pair.0)) i.pairs)
    c.in_ok-condition.ensures) in
    ap (λ (o : Option ℕ). is_some o) first
    ∙ unknown_known library i (subst P c.in_ok-condition.ensures c.in_ok-found.ensures.holds)

pub returns : goal.returns
returns c =
    let library = c.args.library.now in
    let top = c.args.top in
    let i = c.in_ok-found.found.1 in
    let k = c.unwrap-k.result in
    let first : c.first_unknown.result ≡ position (λ (pair : List ℕ
    × List ℕ). not (is_named (ports library (model_number library i.model)) pair.0)) i.pairs =
    c.first_unknown.ensures
    ∙ (ap (λ (j : InstanceOf).
    position (λ (pair : List ℕ × List ℕ).
    not (is_named (ports c.in_ok-condition.condition (model_number c.in_ok-condition.condition
    j.model)) pair.0))
    j.pairs) c.instance-instance.ensures
    ∙ ap (λ (l : List ModelOf). position (λ (pair : List ℕ
    × List ℕ). not (is_named (ports l (model_number l i.model)) pair.0)) i.pairs)
    c.in_ok-condition.ensures) in
    let known = unknown_is library i k (sym first ∙ c.unwrap-k.ensures) in
    let same : c.instance.inside.pairs.items ≡ i.pairs =
    ap (λ (j : InstanceOf). j.pairs) (c.instance.view_is ∙ c.instance-instance.ensures) in
    let formal : c.as_bytes-formal.result.now ≡ (get_or i.pairs k ([], [])).0 =
    c.as_bytes-formal.ensures
    ∙ ap (λ (pair : List ℕ × List ℕ). pair.0)
    (c.index.ensures
    ∙ (get_or_default c.instance.inside.pairs.items k c.index.result.now ([], [])
    (omega (arith, known.0, ap length same))
    ∙ ap (λ (pairs : List (List ℕ × List ℕ)). get_or pairs k ([], [])) same)) in
    let Q : List ℕ → Type 0 = λ name. IsUnknownFormal library top (c.in_ok-found.found, name) in
    let R : ((ℕ × ℕ) × InstanceOf) × List ℕ → Type 0 = λ r. IsUnknownFormal library top r in
    subst R (sym c.new.ensures) (subst Q (sym formal) (
      c.in_ok-found.ensures.stands,
      known.1,
      known.2,
    ))
