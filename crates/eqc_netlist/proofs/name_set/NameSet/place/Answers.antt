use Rattle.std.proofs.Common.{◌≡◌, ◌∙◌, ap, refl, sym, true, []}
use Rattle.std.specs.List.{fold}
use Rattle.eqc_netlist.specs.Names.{is_named}
use Rattle.eqc_netlist.specs.NameSets.{with_name, place_in}
use Rattle.eqc_netlist.proofs.NameSetLaws.{place_kept, name_found}
use Rattle.eqc_netlist.proofs.name_set.NameSet.place.Goals as goal

pub returns-clause-names : goal.returns-clause-names
returns-clause-names c =
    c.in_ok-place.ensures.keys
    ∙ (ap (with_name c.self.inside.names.keys) (c.of.ensures ∙ c.as_bytes-bytes.ensures)
    ∙ ap (λ names. with_name names c.args.name.now) c.self.view_is)

pub returns-clause-place : goal.returns-clause-place
returns-clause-place c = λ later.
    let new = c.insert_full.new.self.keys in
    place_kept c.self.inside.names.keys new c.of.result c.in_ok-place.place later
    c.in_ok-place.ensures.index c.in_ok-place.ensures.keys
    ∙ ap (place_in (fold with_name new later)) (c.of.ensures ∙ c.as_bytes-bytes.ensures)

-- a name that was found among few
there : (c : goal.In-Some) → is_named c.args.self.now c.args.name.now ≡ true
there c =
    ap (is_named c.args.self.now) (sym c.as_bytes-bytes.ensures)
    ∙ (name_found c.args.self.now [] c.as_bytes-bytes.result.now c.in-Some.place
    c.in-Some.ensures.first).0

pub returns-in-Some-clause-names : goal.returns-in-Some-clause-names
returns-in-Some-clause-names c = rw (there c) refl

pub returns-in-Some-clause-place : goal.returns-in-Some-clause-place
returns-in-Some-clause-place c = λ later.
    (name_found c.args.self.now later c.as_bytes-bytes.result.now c.in-Some.place
    c.in-Some.ensures.first).1
    ∙ ap (place_in (fold with_name c.args.self.now later)) c.as_bytes-bytes.ensures
