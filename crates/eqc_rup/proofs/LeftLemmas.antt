-- What is left of the first literals of a clause.
use Rattle.std.proofs.Common.{◌≡◌, ℕ, ◌+◌, ◌<◌, Bool, true, false, List, [], ◌∷◌, ◌++◌, length}
use Rattle.std.proofs.Common.{take, get_or, sym, ◌∙◌, ap, subst, inl, inr, eqb, Option, Some, None}
use Rattle.std.specs.Option.{option_to_list, is_some}
use Rattle.std.proofs.lemmas.List.Folds.{list_any_more}
use Rattle.std.proofs.lemmas.Bool.{or_left, or_right, or_cases, eqb-true, false≢true}
use Rattle.eqc_xag.specs.declared.node.Node.{Node}
use Rattle.eqc_xag.specs.Graph.{literal_value}
use Rattle.eqc_rup.specs.Clauses.{clause_value}
use Rattle.eqc_rup.specs.Checking.{has, Implies}

-- a literal of a true clause's is enough
has_true : (nodes : List Node) (a : ℕ → Bool) (c : List ℕ) (l : ℕ) → has c l ≡ true
    → literal_value nodes a l ≡ true → clause_value nodes a c ≡ true
has_true nodes a [] l there so_is = absurd (false≢true there)
has_true nodes a (m ∷ c) l there so_is = elim (or_cases (eqb m l) (has c l) there) [
  | inl same ↦ or_left _ _ (ap (literal_value nodes a) (eqb-true m l same) ∙ so_is)
  | inr later ↦ or_right _ _ (has_true nodes a c l later so_is)
]

-- the first literals of a clause: none, one more that is among the others, one more that is kept
pub nothing_seen : (c d : List ℕ) → Implies (take 0 c) d
nothing_seen c d = record { implies = λ nodes a so_is. absurd (false≢true so_is) }

false_seen : (c d : List ℕ) (i : ℕ) → i < length c → has d (get_or c i 0) ≡ true
    → Implies (take i c) d → Implies (take (i + 1) c) d
false_seen c d i inside there so = record {
  implies = λ nodes a so_is. elim
      (or_cases _ _ (sym (list_any_more (literal_value nodes a) c i 0 inside) ∙ so_is)) [
        | inl before ↦ so.implies nodes a before
        | inr here ↦ has_true nodes a d (get_or c i 0) there here
      ];
}

one_seen : (c d : List ℕ) (i : ℕ) → i < length c → Implies (take i c) d
    → Implies (take (i + 1) c) (get_or c i 0 ∷ d)
one_seen c d i inside so = record {
  implies = λ nodes a so_is. elim
      (or_cases _ _ (sym (list_any_more (literal_value nodes a) c i 0 inside) ∙ so_is)) [
        | inl before ↦ or_right _ _ (so.implies nodes a before)
        | inr here ↦ or_left _ _ here
      ];
}

has_behind : (o : Option ℕ) (d : List ℕ) (l : ℕ) → has d l ≡ true → has (option_to_list o ++ d) l
    ≡ true
has_behind None d l there = there
has_behind (Some m) d l there = or_right _ _ there

-- the same where what is left may be nothing yet
pub false_kept :
    (c d : List ℕ) (i : ℕ) (old new : Option ℕ) →
    i < length c → has d (get_or c i 0) ≡ true → new ≡ old → Implies (take i c) (option_to_list old
    ++ d) → Implies (take (i + 1) c) (option_to_list new ++ d)
false_kept c d i old new inside there same so =
    subst (λ left. Implies (take (i + 1) c) (option_to_list left ++ d)) (sym same)
    (false_seen c (option_to_list old ++ d) i inside (has_behind old d (get_or c i 0) there) so)

pub one_kept :
    (c d : List ℕ) (i : ℕ) (old new : Option ℕ) →
    i < length c → is_some old ≡ false → new ≡ Some (get_or c i 0)
    → Implies (take i c) (option_to_list old ++ d)
    → Implies (take (i + 1) c) (option_to_list new ++ d)
one_kept c d i (Some l) new inside none same so = absurd (false≢true (sym none))
one_kept c d i None new inside none same so =
    subst (λ left. Implies (take (i + 1) c) (option_to_list left ++ d)) (sym same)
    (one_seen c d i inside so)
