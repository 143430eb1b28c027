use Rattle.std.proofs.Common.{◌≡◌, ◌∙◌, ap, not, refl, sym, true, position}
use Rattle.std.specs.Str.{bytes_eq}
use Rattle.eqc_netlist.specs.Names.{is_named}
use Rattle.eqc_netlist.specs.NameSets.{with_name}
use Rattle.eqc_netlist.proofs.NameSetLaws.{named_if_found, some_answered}
use Rattle.eqc_netlist.proofs.name_set.NameSet.insert_bytes.Goals as goal

pub returns-clause-fresh : goal.returns-clause-fresh
returns-clause-fresh c =
    c.in_ok-fresh.ensures.added
    ∙ (ap (λ name. not (is_named c.self.inside.names.keys name)) c.of.ensures
    ∙ ap (λ names. not (is_named names c.args.name.now)) c.self.view_is)

pub returns-clause-names : goal.returns-clause-names
returns-clause-names c =
    c.in_ok-fresh.ensures.keys
    ∙ (ap (with_name c.self.inside.names.keys) c.of.ensures
    ∙ ap (λ names. with_name names c.args.name.now) c.self.view_is)

-- a name that was found among few
there : (c : goal.Then-is_some) → is_named c.args.self.now c.args.name.now ≡ true
there c =
    sym (named_if_found c.args.self.now c.args.name.now)
    ∙ some_answered c.place_among_few.result (position (λ other. bytes_eq c.args.name.now other)
    c.args.self.now) (sym c.is_some.ensures ∙ c.if-is_some.true) c.place_among_few.ensures.first

pub returns-then-is_some-clause-fresh : goal.returns-then-is_some-clause-fresh
returns-then-is_some-clause-fresh c = sym (ap not (there c))

pub returns-then-is_some-clause-names : goal.returns-then-is_some-clause-names
returns-then-is_some-clause-names c = rw (there c) refl
