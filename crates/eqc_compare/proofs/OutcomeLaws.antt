-- What a comparison finds is the pair's verdict.
use Rattle.std.proofs.Common.{◌≡◌, ◌<◌, length, Option, Some, is_some, true≢false, Bool, true}
use Rattle.std.proofs.Common.{false, Vec, Global, sym, ap, ◌∙◌, if◌then◌else◌, None, option_map}
use Rattle.std.proofs.lemmas.List.Elements.{All-nil}
use Rattle.std.specs.Borrow.{Bor}
use Rattle.std.specs.Option.{option_copied}
use Rattle.eqc_netlist.specs.Graph.{FlatOf}
use Rattle.eqc_pair.specs.PairOf.{PairOf}
use Rattle.eqc_compare.specs.Verdict.{vacuous, compared, allows_none, told}
use Rattle.eqc_compare.specs.Comparing.{netlist_of, assumption_of, differences_in, AreTold}
use Rattle.eqc_compare.specs.Comparing.{IsOutcome}
use Rattle.eqc_compare.specs.declared.outcome.Difference.{Difference}
use Rattle.eqc_compare.specs.declared.outcome.Outcome.TheVariants.{Vacuous, Compared}
use Rattle.eqc_compare.proofs.VerdictLemmas.{all_allowed}

pub vacuous_outcome : (p : PairOf) (every none : Bool) → none ≡ allows_none (netlist_of p.first)
    (assumption_of p) → none ≡ true → IsOutcome p every Vacuous
vacuous_outcome p every none is all = record {
  found = sym (ap (λ b. if b then vacuous else compared (told every (differences_in p))) (sym is
      ∙ all));
  within = All-nil (λ (d : Difference). d.output < length p.first.outputs);
}

pub compared_outcome : (p : PairOf) (every none : Bool) (found : Vec Difference Global) →
    none ≡ allows_none (netlist_of p.first) (assumption_of p) → none ≡ false
    → AreTold p every found.items → IsOutcome p every (Compared found)
compared_outcome p every none found is some t = record {
  found = ap compared t.told_are
      ∙ sym (ap (λ b. if b then vacuous else compared (told every (differences_in p))) (sym is
      ∙ some));
  within = t.within;
}

-- the assumption that a call lends is none
pub none_lent : (p : PairOf) (lent : Option (Bor FlatOf)) → option_copied lent ≡ p.assumes
    → false ≡ is_some lent → p.assumes ≡ None
none_lent p None is none = sym is
none_lent p (Some netlist) is none = absurd (true≢false (sym none))

-- without an assumption some assignment is allowed
pub without_assumption : (p : PairOf) → p.assumes ≡ None → false ≡ allows_none (netlist_of p.first)
    (assumption_of p)
without_assumption p none =
    sym (ap (λ o. allows_none (netlist_of p.first) (option_map netlist_of o)) none
    ∙ all_allowed (netlist_of p.first))
