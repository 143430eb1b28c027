-- The differences of the chosen outputs, one output after another.
use Rattle.std.proofs.Common.{◌≡◌, ℕ, zero, suc, ◌+◌, ◌<◌, ◌≤◌, Bool, true, false, true≢false, List}
use Rattle.std.proofs.Common.{[], ◌∷◌, ◌++◌, length, take, drop, get_or, Some, None, All, refl, sym}
use Rattle.std.proofs.Common.{ap, ◌∙◌, arith, inl, inr}
use Rattle.std.proofs.lemmas.Bool.{cases_eq}
use Rattle.std.proofs.lemmas.List.{take_more, take_all, take-append-drop, map-append, append-nil}
use Rattle.std.proofs.lemmas.List.Elements.{All-nil, All-push, filter-append}
use Rattle.eqc_pair.specs.PairOf.{PairOf}
use Rattle.eqc_pair.specs.Matched.{is_chosen, chosen_outputs}
use Rattle.eqc_compare.specs.Verdict.{with_difference, differences, told}
use Rattle.eqc_compare.specs.Comparing.{netlist_of, assumption_of, difference_at, is_chosen_at}
use Rattle.eqc_compare.specs.Comparing.{told_at, differences_in, found_in, AreTold}
use Rattle.eqc_compare.specs.declared.outcome.Difference.{Difference}
use Rattle.eqc_compare.proofs.VerdictLemmas.{differences-append}

-- the differences of the first outputs
abbrev pub told_before : PairOf → ℕ → List (List ℕ × List Bool)
told_before p n = differences (netlist_of p.first) (netlist_of p.second) (assumption_of p)
    (chosen_outputs p.chosen (take n p.first.outputs))

-- one output more
before_more : (p : PairOf) (n : ℕ) → n < length p.first.outputs → told_before p (n + 1)
    ≡ told_before p n ++ with_difference (get_or p.first.outputs n []) (told_at p n) []
before_more p n inside =
    ap (λ l. differences (netlist_of p.first) (netlist_of p.second) (assumption_of p)
    (chosen_outputs p.chosen l)) (take_more p.first.outputs n [] inside)
    ∙ (ap (differences (netlist_of p.first) (netlist_of p.second) (assumption_of p))
    (filter-append (is_chosen p.chosen) (take n p.first.outputs) (get_or p.first.outputs n []
    ∷ []))
    ∙ (differences-append (netlist_of p.first) (netlist_of p.second) (assumption_of p)
    (chosen_outputs p.chosen (take n p.first.outputs)) (chosen_outputs p.chosen
    (get_or p.first.outputs n [] ∷ []))
    ∙ ap (λ l. told_before p n ++ l) (by (is_chosen_at p n) refl)))
  where
    by : (b : Bool) → is_chosen_at p n ≡ b →
        differences (netlist_of p.first) (netlist_of p.second) (assumption_of p)
        (chosen_outputs p.chosen (get_or p.first.outputs n [] ∷ []))
        ≡ with_difference (get_or p.first.outputs n []) (told_at p n) []
    by true e = rw e refl
    by false e = rw e refl

-- all of them
before_all : (p : PairOf) (n : ℕ) → length p.first.outputs ≤ n → told_before p n ≡ differences_in p
before_all p n whole = ap (λ l. differences (netlist_of p.first) (netlist_of p.second)
    (assumption_of p) (chosen_outputs p.chosen l)) (take_all n p.first.outputs whole)

-- those of the first outputs come first
before_first : (p : PairOf) (n : ℕ) → (rest : List (List ℕ × List Bool))
    × (differences_in p ≡ told_before p n ++ rest)
before_first p n = (
  differences (netlist_of p.first) (netlist_of p.second) (assumption_of p) (chosen_outputs p.chosen
      (drop n p.first.outputs)),
  ap (λ l. differences (netlist_of p.first) (netlist_of p.second) (assumption_of p)
      (chosen_outputs p.chosen l)) (sym (take-append-drop n p.first.outputs))
      ∙ (ap (differences (netlist_of p.first) (netlist_of p.second) (assumption_of p))
      (filter-append (is_chosen p.chosen) (take n p.first.outputs) (drop n p.first.outputs))
      ∙ differences-append (netlist_of p.first) (netlist_of p.second) (assumption_of p)
      (chosen_outputs p.chosen (take n p.first.outputs)) (chosen_outputs p.chosen
      (drop n p.first.outputs))),
)

-- what is found of the first n outputs: each that differs, or none of them where the first alone is
-- asked for
pub record AreToldBefore (p : PairOf) (every : Bool) (found : List Difference) (n : ℕ) : Type 0
  where
    pub told_are : found_in p.first found ≡ told_before p n
    pub alone : every ≡ false → found ≡ []
    pub none : every ≡ false → (k : ℕ) → k < n → told_at p k ≡ None
    pub within : All (λ d. d.output < length p.first.outputs) found

pub told_none : (p : PairOf) (every : Bool) (found : List Difference) → found ≡ []
    → AreToldBefore p every found 0
told_none p every found none = rw none (record {
  told_are = refl;
  alone = λ _. refl;
  none =
      λ _ k lt. absurd (omega arith);
  within = All-nil (λ (d : Difference). d.output
      < length p.first.outputs);
})

module _ (p : PairOf) (every : Bool) (found : List Difference) (n : ℕ) (t : AreToldBefore p every
    found n) where
  -- an output of which nothing is told
  pub told_skip : n < length p.first.outputs → told_at p n ≡ None
      → AreToldBefore p every found (n + 1)
  told_skip inside none = record {
    told_are = t.told_are ∙ sym (before_more p n inside
        ∙ (ap (λ o. told_before p n ++ with_difference (get_or p.first.outputs n []) o []) none
        ∙ append-nil (told_before p n)));
    alone = t.alone;
    none = λ one k lt. elim (cases_eq k n) [
      | inl same ↦ ap (told_at p) same ∙ none
      | inr apart ↦
          t.none one k (omega (arith, lt, apart))
    ];
    within = t.within;
  }

  with_one : n < length p.first.outputs → (d : Difference) → d.output ≡ n
      → told_at p n ≡ Some d.values.items → found_in p.first (found ++ d ∷ [])
      ≡ told_before p (n + 1)
  with_one inside d at here =
      map-append (λ (d : Difference). (get_or p.first.outputs d.output [], d.values.items)) found (d
      ∷ [])
      ∙ (ap (λ l. l ++ (get_or p.first.outputs d.output [], d.values.items) ∷ []) t.told_are
      ∙ (ap (λ k. told_before p n ++ (get_or p.first.outputs k [], d.values.items) ∷ []) at
      ∙ sym (before_more p n inside
      ∙ ap (λ o. told_before p n ++ with_difference (get_or p.first.outputs n []) o []) here)))

  all_within : n < length p.first.outputs → (d : Difference) → d.output ≡ n
      → All (λ d. d.output < length p.first.outputs) (found ++ d ∷ [])
  all_within inside d at = All-push (λ (d : Difference). d.output < length p.first.outputs) found d
      t.within (omega (arith, at, inside))

  -- one that differs
  pub told_more : n < length p.first.outputs → (d : Difference) → d.output ≡ n
      → told_at p n ≡ Some d.values.items → every ≡ true → AreToldBefore p every (found ++ d ∷ [])
      (n + 1)
  told_more inside d at here all = record {
    told_are = with_one inside d at here;
    alone = λ one. absurd (true≢false (sym all ∙ one));
    none = λ one. absurd (true≢false (sym all ∙ one));
    within = all_within inside d at;
  }

  -- the first that differs, where it is asked for alone
  pub told_first : n < length p.first.outputs → (d : Difference) → d.output ≡ n
      → told_at p n ≡ Some d.values.items → every ≡ false → AreTold p every (found ++ d ∷ [])
  told_first inside d at here one =
      let rest = before_first p (n + 1) in
      let none = t.alone one in
      let whole : differences_in p ≡ (get_or p.first.outputs d.output [], d.values.items) ∷ rest.0 =
      rest.1
      ∙ ap (λ l. l ++ rest.0) (sym (with_one inside d at here)
      ∙ ap (λ l. found_in p.first (l ++ d ∷ [])) none) in
      record {
        told_are = ap (λ l. found_in p.first (l ++ d ∷ [])) none
            ∙ sym (ap (λ b. told b (differences_in p)) one ∙ ap (take 1) whole);
        within = all_within inside d at;
      }

  -- all outputs were looked at
  pub told_all : length p.first.outputs ≤ n → AreTold p every found
  told_all whole = by every refl
    where
      by : (b : Bool) → every ≡ b → AreTold p every found
      by true e = record {
        told_are = t.told_are ∙ (before_all p n whole
            ∙ ap (λ b. told b (differences_in p)) (sym e));
        within = t.within;
      }
      by false e =
          let none : differences_in p ≡ [] = sym (before_all p n whole)
          ∙ (sym t.told_are ∙ ap (found_in p.first) (t.alone e)) in
          record {
            told_are = ap (found_in p.first) (t.alone e) ∙ sym (ap (told every) none
                ∙ ap (λ b. told b []) e);
            within = t.within;
          }

-- where nothing is told of any output nothing is found
none_upto : (p : PairOf) (every : Bool) (n : ℕ) → n ≤ length p.first.outputs
    → ((o : ℕ) → o < length p.first.outputs → told_at p o ≡ None) → AreToldBefore p every [] n
none_upto p every zero le none = told_none p every [] refl
none_upto p every (suc n) le none =
    let more = told_skip p every [] n (none_upto p every n (omega arith) none) (omega arith)
    (none n (omega arith)) in
    let e : n + 1 ≡ suc n = omega arith in rw e at more

pub nothing_told : (p : PairOf) (every : Bool) → ((o : ℕ) → o < length p.first.outputs
    → told_at p o ≡ None) → AreTold p every []
nothing_told p every none = told_all p every [] (length p.first.outputs)
    (none_upto p every (length p.first.outputs) (omega arith) none) (omega arith)

-- a chosen output is told as it differs
pub told_chosen : (p : PairOf) (o : ℕ) → is_chosen_at p o ≡ true → told_at p o ≡ difference_at p o
told_chosen p o chosen = rw chosen refl

pub told_left_out : (p : PairOf) (o : ℕ) → is_chosen_at p o ≡ false → told_at p o ≡ None
told_left_out p o not_chosen = rw not_chosen refl

pub told_equal : (p : PairOf) (o : ℕ) → difference_at p o ≡ None → told_at p o ≡ None
told_equal p o never = by (is_chosen_at p o) refl
  where
    by : (b : Bool) → is_chosen_at p o ≡ b → told_at p o ≡ None
    by true e = told_chosen p o e ∙ never
    by false e = told_left_out p o e
