use Rattle.std.proofs.Common.{◌<◌, ℕ, List, slice_index_or, refl, sym, ◌∙◌, subst, arith}
use Rattle.eqc_netlist.proofs.DistanceLaws.{from_zero}
use Rattle.eqc_netlist.proofs.flat.signals.Signals.of.Goals as goal

pub behind-requires : goal.behind-requires
behind-requires c = λ k inside.
    let P : List ℕ → Type 0 = λ l. slice_index_or l k 0 < 4294967296 in
    let fits = c.type_inv.signals k in
    subst P (sym (from_zero _ c.args.signals.now refl)) (omega (arith, fits))

pub returns : goal.returns
returns c = c.behind.ensures ∙ from_zero _ c.args.signals.now refl
