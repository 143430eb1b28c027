use Rattle.std.proofs.Common.{◌≡◌, ◌∙◌, ℕ, List, length, inl, inr, sym, ap, subst, arith, None}
use Rattle.std.proofs.Common.{false}
use Rattle.std.specs.Prelude.{IfOk, IfErr}
use Rattle.std.proofs.lemmas.Result.{IfOk-weaker, IfErr-weaker}
use Rattle.eqc_blif.specs.Netlist.{ModelOf}
use Rattle.eqc_hierarchy.specs.Codes.{code_of_drivers, flat_code, has_many_inputs}
use Rattle.eqc_flat.specs.Flattened.{IsFlatOf}
use Rattle.eqc_flat.specs.Flattening.{IsNumberable, IsFlatFault, IsFaultAnyway, IsDriversFault}
use Rattle.eqc_flat.proofs.CodeLaws.{code_30, drivers_left, few_inputs, many_inputs}
use Rattle.eqc_flat.proofs.flattening.flat_below.Goals as goal

-- a fault whatever the limit is one under a limit
anyway : (library : List ModelOf) (top limit code : ℕ) → IsFaultAnyway library top code
    → IsFlatFault library top limit code
anyway library top limit code (inl memory) = inl memory
anyway library top limit code (inr told) = inr (told limit)

-- so is a fault of what drives the signals, where no other code applies
left : (library : List ModelOf) (top limit code : ℕ) → flat_code library top limit
    ≡ code_of_drivers library top → IsDriversFault library top code
    → IsFlatFault library top limit code
left library top limit code same (inl memory) = inl memory
left library top limit code same (inr told) = inr (same ∙ told)

pub returns-in-Err-clause-refused : goal.returns-in-Err-clause-refused
returns-in-Err-clause-refused c = anyway c.args.library.now c.args.top c.args.limit
    c.in-Err.fault.code c.in-Err.ensures.refused

pub returns-then-inputs-most-clause-refused : goal.returns-then-inputs-most-clause-refused
returns-then-inputs-most-clause-refused c =
    let library = c.args.library.now in
    let top = c.args.top in
    let none = rw c.in-Ok.is at c.expanded.ensures.models in
    let made = rw c.in-Ok.is at c.expanded.ensures.made in
    rw c.of.ensures (inr (code_30 library top c.args.limit none made.small (many_inputs library top
    c.args.limit (omega (arith, c.if-inputs-most.true, ap length c.inputs.ensures.names)))))

pub netlist-requires-clause-numbered : goal.netlist-requires-clause-numbered
netlist-requires-clause-numbered c =
    let none = rw c.in-Ok.is at c.expanded.ensures.models in
    let made = rw c.in-Ok.is at c.expanded.ensures.made in
    let P : List ModelOf × ℕ → Type 0 = λ v. IsNumberable v.0 v.1 in
    subst P (sym made.same) (record {
      models = none;
      small = made.small;
      few =
          omega (arith, c.if-inputs-most.false, ap length c.inputs.ensures.names, c.ranges.limit);
    })

pub returns-clause-accepted : goal.returns-clause-accepted
returns-clause-accepted c =
    let library = c.args.library.now in
    let top = c.args.top in
    let none = rw c.in-Ok.is at c.expanded.ensures.models in
    let made = rw c.in-Ok.is at c.expanded.ensures.made in
    let few : has_many_inputs library top c.args.limit ≡ false = few_inputs library top c.args.limit
    (omega (arith, c.if-inputs-most.false, ap length c.inputs.ensures.names)) in
    let P : List ModelOf × ℕ → Type 0 = λ v. IfOk c.netlist.result (λ flat. code_of_drivers v.0 v.1
    ≡ None) in
    IfOk-weaker _ _ (λ flat. flat_code library top c.args.limit ≡ None)
    (λ flat is. drivers_left library top c.args.limit none made.small few
    ∙ is) (subst P made.same c.netlist.ensures.accepted)

pub returns-clause-flat : goal.returns-clause-flat
returns-clause-flat c =
    let made = rw c.in-Ok.is at c.expanded.ensures.made in
    let P : List ModelOf × ℕ → Type 0 = λ v. IfOk c.netlist.result (λ flat. IsFlatOf v.0 v.1 flat)
    in
    subst P made.same c.netlist.ensures.flat

pub returns-clause-refused : goal.returns-clause-refused
returns-clause-refused c =
    let library = c.args.library.now in
    let top = c.args.top in
    let none = rw c.in-Ok.is at c.expanded.ensures.models in
    let made = rw c.in-Ok.is at c.expanded.ensures.made in
    let few : has_many_inputs library top c.args.limit ≡ false = few_inputs library top c.args.limit
    (omega (arith, c.if-inputs-most.false, ap length c.inputs.ensures.names)) in
    let same = drivers_left library top c.args.limit none made.small few in
    let P : List ModelOf × ℕ → Type 0 = λ v. IfErr c.netlist.result (λ fault. IsDriversFault v.0 v.1
    fault.code) in
    IfErr-weaker _ _ (λ fault. IsFlatFault library top c.args.limit fault.code)
    (λ fault is. left library top c.args.limit fault.code same is)
    (subst P made.same c.netlist.ensures.refused)
