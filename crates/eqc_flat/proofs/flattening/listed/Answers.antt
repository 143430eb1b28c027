use Rattle.std.proofs.Common.{◌≡◌, ◌∙◌, [], ℕ, List, length, get_or, ap, arith}
use Rattle.eqc_blif.specs.Netlist.{ModelOf}
use Rattle.eqc_netlist.specs.Names.{is_named}
use Rattle.eqc_hierarchy.specs.Hierarchy.{model}
use Rattle.eqc_hierarchy.specs.Signals.{names_of}
use Rattle.eqc_flat.specs.Flattened.{signals_here}
use Rattle.eqc_hierarchy.proofs.NamingLaws.{output_named}
use Rattle.eqc_flat.proofs.flattening.listed.Goals as goal

pub signals_of-requires-clause-named : goal.signals_of-requires-clause-named
signals_of-requires-clause-named c = λ j h.
    let library = c.args.hierarchy.now.0 in
    let top = c.args.hierarchy.now.1 in
    let outputs : c.outputs-outputs.result.now ≡ (model library top).outputs =
    c.outputs-outputs.ensures.names
    ∙ (ap (λ (n : ℕ). (model c.library.result.now n).outputs) c.top.ensures.top
    ∙ ap (λ (l : List ModelOf). (model l top).outputs) c.library.ensures) in
    ap (λ (m : ModelOf). is_named (names_of m) (get_or c.outputs-outputs.result.now j []))
    c.top.ensures.main
    ∙ (ap (λ (xs : List (List ℕ)). is_named (names_of (model library top)) (get_or xs j [])) outputs
    ∙ output_named (model library top) j (omega (arith, h, ap length outputs)))

pub returns-clause-outputs : goal.returns-clause-outputs
returns-clause-outputs c =
    let library = c.args.hierarchy.now.0 in
    let top = c.args.hierarchy.now.1 in
    let outputs : c.outputs-outputs.result.now ≡ (model library top).outputs =
    c.outputs-outputs.ensures.names
    ∙ (ap (λ (n : ℕ). (model c.library.result.now n).outputs) c.top.ensures.top
    ∙ ap (λ (l : List ModelOf). (model l top).outputs) c.library.ensures) in
    c.in_ok-output_signals.ensures.signals ∙ ap (signals_here library top 0) outputs
