use Rattle.std.proofs.Common.{◌≡◌, ◌∙◌, ap, sym, Bool, ℕ, List, map, take}
use Rattle.std.specs.List.{list_any}
use Rattle.std.specs.Str.{bytes_eq}
use Rattle.eqc_netlist.specs.Names.{is_named}
use Rattle.eqc_hierarchy.proofs.NameSetLaws.{formal_named, named_twice, once_next}
use Rattle.eqc_hierarchy.proofs.condition.instance_conditions.stands_twice.Goals as goal

-- what the call says of the formals before one
before : (pairs : List (List ℕ × List ℕ)) (bytes name : List ℕ) (found : Bool)
    → found ≡ list_any (λ (pair : List ℕ × List ℕ). bytes_eq bytes pair.0) pairs → bytes ≡ name
    → found ≡ is_named (map (λ (pair : List ℕ × List ℕ). pair.0) pairs) name
before pairs bytes name found is same = is ∙ (formal_named pairs bytes
    ∙ ap (is_named (map (λ (pair : List ℕ × List ℕ). pair.0) pairs)) same)

pub returns-then-is_formal : goal.returns-then-is_formal
returns-then-is_formal c =
    let earlier = take c.loop-k.k c.args.pairs.now in
    sym (named_twice (λ (pair : List ℕ × List ℕ). pair.0) c.args.pairs.now c.loop-k.k
    c.index-pairs-k.result c.loop-k-test.true
    (ap (λ (pair : List ℕ × List ℕ). is_named (map (λ (pair : List ℕ × List ℕ). pair.0) earlier)
    pair.0) (sym c.index-pairs-k.is)
    ∙ (sym (before earlier c.as_bytes.result.now c.index-pairs-k.result.0 c.is_formal.result
    c.is_formal.ensures c.as_bytes.ensures) ∙ c.if-is_formal.true)))

pub loop-k-preserved : goal.loop-k-preserved
loop-k-preserved c =
    once_next (λ (pair : List ℕ × List ℕ). pair.0) c.args.pairs.now c.loop-k.k
    c.index-pairs-k.result c.loop-k-test.true c.index-pairs-k.is c.loop-k.invariant
    (sym (before (take c.loop-k.k c.args.pairs.now) c.as_bytes.result.now c.index-pairs-k.result.0
    c.is_formal.result c.is_formal.ensures c.as_bytes.ensures) ∙ c.if-is_formal.false)
