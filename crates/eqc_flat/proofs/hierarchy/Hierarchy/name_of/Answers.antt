use Rattle.std.proofs.Common.{◌≡◌, ◌∙◌, ap, sym, ℕ, List, []}
use Rattle.std.specs.Prelude.{slice_index_or}
use Rattle.eqc_blif.specs.Netlist.{ModelOf}
use Rattle.eqc_hierarchy.specs.Hierarchy.{model}
use Rattle.eqc_hierarchy.specs.Signals.{names_of}
use Rattle.eqc_flat.specs.Flattened.{path_at, model_of, signal_at}
use Rattle.eqc_flat.specs.Finding.{steps_of, hierarchical_name}
use Rattle.eqc_flat.specs.declared.finding.hierarchical_name.Step.{Step}
use Rattle.eqc_flat.proofs.NumberLaws.{signal_here}
use Rattle.eqc_flat.proofs.hierarchy.Hierarchy.name_of.Goals as goal

pub returns : goal.returns
returns c =
    let library = c.args.self.now.0 in
    let top = c.args.self.now.1 in
    let i = c.instance_of-i.result.0 in
    let k = c.instance_of-i.result.1 in
    let same : c.self.inside.naming.now ≡ library = c.self.invariant.same
    ∙ ap (λ (v : List ModelOf × ℕ). v.0) c.self.view_is in
    let name : c.name-name.result.now ≡ slice_index_or (names_of (model_of library top i)) k [] =
    c.name-name.ensures
    ∙ (ap (λ (l : List ModelOf). slice_index_or (names_of (model l c.model.result)) k []) same
    ∙ ap (λ (m : ℕ). slice_index_or (names_of (model library m)) k []) c.model.ensures.number) in
    let signal : signal_at library top c.args.s ≡ record {
      path = path_at library top i;
      name =
          slice_index_or (names_of (model_of library top i)) k [];
    } =
    ap (signal_at library top) (sym c.instance_of-i.ensures.signal)
    ∙ signal_here library top i k c.instance_of-i.ensures.instance
    c.instance_of-i.ensures.position in
    c.new.ensures
    ∙ (ap (λ (steps : List Step). (steps, c.name-name.result.now)) c.in_ok-steps.ensures
    ∙ (ap (λ (x : List ℕ). (steps_of library top (path_at library top i), x)) name
    ∙ sym (ap (hierarchical_name library top) signal)))
