use Rattle.std.proofs.Common.{◌≡◌, ◌∙◌, ap, refl, sym, true, []}
use Rattle.std.specs.List.{fold}
use Rattle.eqc_netlist.specs.Names.{is_named}
use Rattle.eqc_netlist.specs.NameSets.{with_name, place_in}
use Rattle.eqc_netlist.proofs.NameSetLaws.{name_found}
use Rattle.eqc_netlist.proofs.name_set.NameSet.place_near.Goals as goal

-- a name that stands near is there already
near : (c : goal.Then-stands_at) → is_named c.args.self.now c.args.name.now ≡ true
near c =
    ap (is_named c.args.self.now) (sym c.as_bytes-bytes.ensures)
    ∙ (name_found c.args.self.now [] c.as_bytes-bytes.result.now c.args.near
    (c.stands_at.ensures c.if-stands_at.true)).0

pub returns-then-stands_at-clause-names : goal.returns-then-stands_at-clause-names
returns-then-stands_at-clause-names c = rw (near c) refl

pub returns-then-stands_at-clause-place : goal.returns-then-stands_at-clause-place
returns-then-stands_at-clause-place c = λ later.
    (name_found c.args.self.now later c.as_bytes-bytes.result.now c.args.near
    (c.stands_at.ensures c.if-stands_at.true)).1
    ∙ ap (place_in (fold with_name c.args.self.now later)) c.as_bytes-bytes.ensures

-- and so is one that stands where the last was put
last : (c : goal.Then-stands_at-2) → is_named c.args.self.now c.args.name.now ≡ true
last c =
    ap (is_named c.args.self.now) (sym c.as_bytes-bytes.ensures)
    ∙ (name_found c.args.self.now [] c.as_bytes-bytes.result.now c.args.last (c.stands_at-2.ensures
    c.if-stands_at-2.true)).0

pub returns-then-stands_at-2-clause-names : goal.returns-then-stands_at-2-clause-names
returns-then-stands_at-2-clause-names c = rw (last c) refl

pub returns-then-stands_at-2-clause-place : goal.returns-then-stands_at-2-clause-place
returns-then-stands_at-2-clause-place c = λ later.
    (name_found c.args.self.now later c.as_bytes-bytes.result.now c.args.last (c.stands_at-2.ensures
    c.if-stands_at-2.true)).1
    ∙ ap (place_in (fold with_name c.args.self.now later)) c.as_bytes-bytes.ensures

-- and so is one that stands behind what is near
next : (c : goal.Then-stands_in_row) → is_named c.args.self.now c.args.name.now ≡ true
next c =
    ap (is_named c.args.self.now) (sym c.as_bytes-bytes.ensures)
    ∙ (name_found c.args.self.now [] c.as_bytes-bytes.result.now _ (c.stands_in_row.ensures
    c.if-stands_in_row.true)).0

pub returns-then-stands_in_row-clause-names : goal.returns-then-stands_in_row-clause-names
returns-then-stands_in_row-clause-names c = rw (next c) refl

pub returns-then-stands_in_row-clause-place : goal.returns-then-stands_in_row-clause-place
returns-then-stands_in_row-clause-place c = λ later.
    (name_found c.args.self.now later c.as_bytes-bytes.result.now _ (c.stands_in_row.ensures
    c.if-stands_in_row.true)).1
    ∙ ap (place_in (fold with_name c.args.self.now later)) c.as_bytes-bytes.ensures
