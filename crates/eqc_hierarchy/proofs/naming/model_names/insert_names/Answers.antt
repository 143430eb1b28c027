use Rattle.std.proofs.Common.{◌≡◌, ◌++◌, ◌∙◌, sym, ap, map, ℕ}
use Rattle.smallvec.specs.SmallVec.{SmallVec}
use Rattle.std.specs.List.{fold, flat_map}
use Rattle.eqc_hierarchy.specs.Hierarchy.{model}
use Rattle.eqc_netlist.specs.NameSets.{with_name}
use Rattle.eqc_hierarchy.specs.Signals.{names_of, actuals}
use Rattle.eqc_hierarchy.specs.Columns.{columns_in}
use Rattle.eqc_hierarchy.proofs.NameSetLaws.{names_made}
use Rattle.eqc_hierarchy.proofs.naming.model_names.insert_names.Goals as goal

pub returns-clause-names : goal.returns-clause-names
returns-clause-names c =
    names_made (model c.args.library.now c.args.m) c.insert_all.new.self c.insert_all-2.new.self
    c.insert_covers.new.names c.insert_actuals.new.names
    (rw (c.requires.empty, c.inputs.ensures.names) at c.in_ok-insert_all.ensures)
    (rw c.outputs.ensures.names at c.in_ok-insert_all-2.ensures)
    (rw c.covers.ensures at c.in_ok-insert_covers.ensures.names)
    (rw c.instances.ensures at c.in_ok-insert_actuals.ensures)

pub returns-clause-columns : goal.returns-clause-columns
returns-clause-columns c =
    let m = model c.args.library.now c.args.m in
    let names : c.insert_actuals.new.names ≡ names_of m = names_made m c.insert_all.new.self
    c.insert_all-2.new.self c.insert_covers.new.names c.insert_actuals.new.names
    (rw (c.requires.empty, c.inputs.ensures.names) at c.in_ok-insert_all.ensures)
    (rw c.outputs.ensures.names at c.in_ok-insert_all-2.ensures)
    (rw c.covers.ensures at c.in_ok-insert_covers.ensures.names)
    (rw c.instances.ensures at c.in_ok-insert_actuals.ensures) in
    let all : fold with_name c.insert_covers.new.names (flat_map actuals m.instances) ≡ names_of m =
    (let put : c.insert_actuals.new.names ≡ fold with_name c.insert_covers.new.names
    (flat_map actuals m.instances) =
    rw c.instances.ensures at c.in_ok-insert_actuals.ensures in
    sym put ∙ names) in
    c.in_ok-insert_covers.ensures.columns (flat_map actuals m.instances)
    ∙ (ap (λ cs. map (λ (v : SmallVec ℕ). v.items) c.args.columns.now.items
    ++ columns_in (fold with_name c.insert_covers.new.names (flat_map actuals m.instances)) cs)
    c.covers.ensures
    ∙ ap (λ ns. map (λ (v : SmallVec ℕ). v.items) c.args.columns.now.items
    ++ columns_in ns m.covers) all)
