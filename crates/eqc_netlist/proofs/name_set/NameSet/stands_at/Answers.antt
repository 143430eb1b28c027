use Rattle.std.proofs.Common.{◌≡◌, ◌<◌, ◌∙◌, ℕ, List, [], ap, arith, get_or, length, position, sym}
use Rattle.std.specs.Str.{bytes_eq}
use Rattle.eqc_netlist.proofs.NameSetLaws.{bytes_same, place_there}
use Rattle.eqc_netlist.proofs.name_set.NameSet.stands_at.Goals as goal

pub returns-then-eq : goal.returns-then-eq
returns-then-eq c = λ yes.
    let keys = c.self.inside.names.keys in
    let same : c.args.name.now ≡ c.get-then-eq.result.now =
    bytes_same c.args.name.now c.get-then-eq.result.now (sym c.eq-then-eq.ensures ∙ yes) in
    let inside : c.args.place < length keys = omega (
      arith,
      c.in-Some.ensures.lookup.3.0,
      ap length c.as_slice.ensures.keys,
    ) in
    let here : get_or keys c.args.place [] ≡ c.args.name.now =
    ap (λ (ks : List (List ℕ)). get_or ks c.args.place []) (sym c.as_slice.ensures.keys)
    ∙ (sym (c.in-Some.ensures.lookup.3.1 []) ∙ (sym c.get-then-eq.ensures ∙ sym same)) in
    ap (position (λ other. bytes_eq c.args.name.now other)) (sym c.self.view_is)
    ∙ place_there keys c.args.place c.args.name.now c.as_slice.ensures.unique inside here
