use Rattle.std.proofs.Common.{◌<◌, ◌≤◌, ℕ, List, Bor, [], length, map, slice_index_or, arith, ap}
use Rattle.std.proofs.Common.{sym, ◌∙◌}
use Rattle.std.proofs.lemmas.List.{get_or-map, length-map}
use Rattle.eqc_netlist.specs.Graph.{FlatOf}
use Rattle.eqc_netlist.proofs.flat.Flat.signal.Goals as goal

pub returns-clause-instance : goal.returns-clause-instance
returns-clause-instance c =
    let read : ℕ × Bor (List ℕ) → ℕ × List ℕ = λ p. (p.0, p.1.now) in
    let all = c.self.inside.signals.items in
    let named = length-map all read in
    let same = ap (λ (f : FlatOf). length f.drivers) c.self.view_is in
    let there : c.args.s < length all = omega (
      arith,
      c.requires,
      same,
      c.self.invariant.each_named,
      named,
    ) in
    let here : (slice_index_or (map read all) c.args.s (0, [])).0
    ≤ length c.self.inside.places.items = c.self.invariant.instances_within c.args.s
    (omega (arith, there, named)) in
    let is = get_or-map read all c.args.s c.index.result.now (0, []) there
    ∙ ap read (sym c.index.ensures) in
    let places = ap (λ (f : FlatOf). length f.places) c.self.view_is in
    omega (arith, here, ap (λ (p : ℕ × List ℕ). p.0) is, places)
