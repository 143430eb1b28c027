use Rattle.std.proofs.Common.{◌≡◌, ◌-◌, ◌∙◌, ap, map, take, length, ℕ, List}
use Rattle.eqc_flat.specs.Flattened.{signal_at}
use Rattle.eqc_hierarchy.specs.Walks.{from_on}
use Rattle.eqc_flat.specs.Finding.{hierarchical_name}
use Rattle.eqc_flat.specs.declared.finding.hierarchical_name.Step.{Step}
use Rattle.eqc_flat.proofs.finding.circle_finding.named_circle.Goals as goal

pub returns : goal.returns
returns c =
    let library = c.args.hierarchy.now.0 in
    let top = c.args.hierarchy.now.1 in
    let start = c.start_of-start.result in
    let members : c.split_at-2.result.0.now ≡ from_on start c.args.walk.now =
    c.split_at-2.ensures.front ∙ ap (λ (round : List ℕ). take (length round - 1) round)
    c.split_at.ensures.back in (
      start,
      c.start_of-start.ensures.before,
      c.start_of-start.ensures.same,
      c.new.ensures
          ∙ (ap (λ (names : List (List Step × List ℕ)). (names, length c.split_at-2.result.0.now))
          c.in_ok-names.ensures
          ∙ ap (λ (l : List ℕ). (
            map {A = ℕ} {B = List Step
                × List ℕ} (λ s. hierarchical_name library top (signal_at library top s)) (take 20 l),
            length l,
          )) members),
    )
