use Rattle.std.proofs.Common.{◌≡◌, ◌+◌, ◌<◌, ℕ, List, [], length, slice_index_or, arith, refl, ap}
use Rattle.std.proofs.Common.{subst}
use Rattle.eqc_blif.specs.Netlist.{ModelOf}
use Rattle.eqc_hierarchy.specs.Hierarchy.{paths}
use Rattle.eqc_hierarchy.specs.Signals.{names_of, signals}
use Rattle.eqc_flat.specs.Flattened.{path_at, model_of, signal_at}
use Rattle.eqc_flat.proofs.InstanceLaws.{found_firsts, found_first, found_signals}
use Rattle.eqc_flat.proofs.ExpandedLaws.{signal_is, signal_within}
use Rattle.eqc_flat.proofs.hierarchy.Hierarchy.signal_of.Goals as goal

pub index-requires : goal.index-requires
index-requires c =
    let all = c.self.inside.instances in
    let size = found_firsts c.self.inside.calls all.top (length (paths c.self.inside.calls all.top))
    all.signals all.models.items all.firsts.items all.places.items c.self.invariant.found in
    let same = ap (λ (v : List ModelOf × ℕ). length (paths v.0 v.1)) c.self.view_is in
    omega (arith, size, same, c.requires.instance, all.firsts.ok.0)

pub overflow_add-result : goal.overflow_add-result
overflow_add-result c =
    let all = c.self.inside.instances in
    let h = c.self.invariant.found in
    let library = c.self.inside.calls in
    let here : c.args.i < length (paths library all.top) = omega (
      arith,
      c.requires.instance,
      ap (λ (v : List ModelOf × ℕ). length (paths v.0 v.1)) c.self.view_is,
    ) in
    let first = found_first library all.top (length (paths library all.top)) c.args.i
    c.index.result.now all.signals all.models.items all.firsts.items all.places.items h here
    c.index.ensures in
    let inside : c.args.k < length (names_of (model_of library all.top c.args.i)) =
    omega (
      arith,
      c.requires.position,
      ap (λ (v : List ModelOf × ℕ). length (names_of (model_of v.0 v.1 c.args.i))) c.self.view_is,
    )
    in
    let within = signal_within library all.top c.args.i c.index.result.now c.args.k here first
    inside in
    let most = found_signals library all.top (length (paths library all.top)) all.signals
    all.models.items all.firsts.items all.places.items h refl in
    omega (arith, within, most, h.few)

pub returns-clause-within : goal.returns-clause-within
returns-clause-within c =
    let all = c.self.inside.instances in
    let h = c.self.invariant.found in
    let library = c.self.inside.calls in
    let here : c.args.i < length (paths library all.top) = omega (
      arith,
      c.requires.instance,
      ap (λ (v : List ModelOf × ℕ). length (paths v.0 v.1)) c.self.view_is,
    ) in
    let first = found_first library all.top (length (paths library all.top)) c.args.i
    c.index.result.now all.signals all.models.items all.firsts.items all.places.items h here
    c.index.ensures in
    let inside : c.args.k < length (names_of (model_of library all.top c.args.i)) =
    omega (
      arith,
      c.requires.position,
      ap (λ (v : List ModelOf × ℕ). length (names_of (model_of v.0 v.1 c.args.i))) c.self.view_is,
    )
    in
    let within = signal_within library all.top c.args.i c.index.result.now c.args.k here first
    inside in
    let P : List ModelOf × ℕ → Type 0 = λ v. c.index.result.now + c.args.k
    < length (signals v.0 v.1) in
    subst P c.self.view_is within

pub returns-clause-signal : goal.returns-clause-signal
returns-clause-signal c =
    let all = c.self.inside.instances in
    let h = c.self.invariant.found in
    let library = c.self.inside.calls in
    let here : c.args.i < length (paths library all.top) = omega (
      arith,
      c.requires.instance,
      ap (λ (v : List ModelOf × ℕ). length (paths v.0 v.1)) c.self.view_is,
    ) in
    let first = found_first library all.top (length (paths library all.top)) c.args.i
    c.index.result.now all.signals all.models.items all.firsts.items all.places.items h here
    c.index.ensures in
    let inside : c.args.k < length (names_of (model_of library all.top c.args.i)) =
    omega (
      arith,
      c.requires.position,
      ap (λ (v : List ModelOf × ℕ). length (names_of (model_of v.0 v.1 c.args.i))) c.self.view_is,
    )
    in
    let within = signal_within library all.top c.args.i c.index.result.now c.args.k here first
    inside in
    let P : List ModelOf × ℕ → Type 0 = λ v.
    signal_at v.0 v.1 (c.index.result.now + c.args.k)
    ≡ record {
      path = path_at v.0 v.1 c.args.i;
      name =
          slice_index_or (names_of (model_of v.0 v.1 c.args.i)) c.args.k [];
    } in
    subst P c.self.view_is (signal_is library all.top c.args.i c.index.result.now c.args.k
    (slice_index_or (names_of (model_of library all.top c.args.i)) c.args.k []) here first
    inside refl)

pub returns-clause-small : goal.returns-clause-small
returns-clause-small c =
    let all = c.self.inside.instances in
    let h = c.self.invariant.found in
    let library = c.self.inside.calls in
    let here : c.args.i < length (paths library all.top) = omega (
      arith,
      c.requires.instance,
      ap (λ (v : List ModelOf × ℕ). length (paths v.0 v.1)) c.self.view_is,
    ) in
    let first = found_first library all.top (length (paths library all.top)) c.args.i
    c.index.result.now all.signals all.models.items all.firsts.items all.places.items h here
    c.index.ensures in
    let inside : c.args.k < length (names_of (model_of library all.top c.args.i)) =
    omega (
      arith,
      c.requires.position,
      ap (λ (v : List ModelOf × ℕ). length (names_of (model_of v.0 v.1 c.args.i))) c.self.view_is,
    )
    in
    let within = signal_within library all.top c.args.i c.index.result.now c.args.k here first
    inside in
    let most = found_signals library all.top (length (paths library all.top)) all.signals
    all.models.items all.firsts.items all.places.items h refl in
    omega (arith, within, most, h.few)
