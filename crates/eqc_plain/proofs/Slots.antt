-- The places of numbers in a list in which each stands once, and to which one comes where it isn't
-- there.
use Rattle.std.proofs.Common.{◌≡◌, ℕ, ◌+◌, ◌<◌, ◌⊎◌, Bool, true, false, List, [], ◌∷◌, ◌++◌, length}
use Rattle.std.proofs.Common.{get_or, Option, None, Some, position, nat_eq, refl, sym, ◌∙◌, ap}
use Rattle.std.proofs.Common.{subst, arith, inl, inr, eqb-true, eq-eqb, true≢false, length-append}
use Rattle.std.proofs.Common.{if◌then◌else◌, ◌||◌}
use Rattle.std.proofs.lemmas.Grind.{get_or_default_zero}
use Rattle.std.proofs.lemmas.List.{get_or_append_left, get_or-append-add}
use Rattle.std.proofs.lemmas.List.Folds.{Any-from_list_any, list_any_at, list_any-append}
use Rattle.std.proofs.lemmas.List.Quantifiers.{position-Some}
use Rattle.std.specs.Prelude.{IfSome}
use Rattle.std.specs.List.{list_any}
use Rattle.indexmap.specs.IndexSet.{insert_key}
use Rattle.eqc_plain.specs.Copying.{Has, Takes}

-- where a number is found, it stands
pub stands_at : (r : Option ℕ) (w : ℕ) (ws : List ℕ) → r ≡ position (nat_eq w) ws
    → IfSome r (λ k. (k < length ws) × (get_or ws k 0 ≡ w))
stands_at None w ws e = tt
stands_at (Some k) w ws e =
    let p = position-Some (nat_eq w) ws k 0 (sym e) in
    (p.0, sym (eqb-true w (get_or ws k 0) p.1))

nat_eq_self : (x : ℕ) → nat_eq x x ≡ true
nat_eq_self x = eq-eqb x x refl

-- a number that is among them has a place
pub place_of : (xs : List ℕ) (x : ℕ) → Has xs x → (k : ℕ) × (k < length xs) × (get_or xs k 0 ≡ x)
place_of xs x h =
    let a = Any-from_list_any (nat_eq x) xs h in
    (a.0, a.2, sym (get_or_default_zero xs a.0 a.1 a.2) ∙ (a.3 ∙ sym (eqb-true x a.1 a.4)))

-- and so is what has a place
pub has_place : (xs : List ℕ) (k : ℕ) → k < length xs → Has xs (get_or xs k 0)
has_place xs k h = list_any_at (nat_eq (get_or xs k 0)) xs k 0 h (nat_eq_self (get_or xs k 0))

last_is : (old : List ℕ) (w : ℕ) → get_or (old ++ w ∷ []) (length old) 0 ≡ w
last_is old w = let z : length old + 0 ≡ length old = omega arith in
    subst (λ n. get_or (old ++ w ∷ []) n 0 ≡ w) z (get_or-append-add old (w ∷ []) 0 0)

module _ (old new : List ℕ) (w : ℕ) (is : new ≡ insert_key nat_eq old w) where
  stay : list_any (nat_eq w) old ≡ true → new ≡ old
  stay e = is ∙ ap (λ c. if c then old else old ++ w ∷ []) e

  more : list_any (nat_eq w) old ≡ false → new ≡ old ++ w ∷ []
  more e = is ∙ ap (λ c. if c then old else old ++ w ∷ []) e

  takes_by : (b : Bool) → list_any (nat_eq w) old ≡ b → Takes old new w
  takes_by true e =
      let s = stay e in
      rw s (record {
        here = e;
        grows = λ q h. h;
        only = λ q h. inl h;
        longer = omega arith;
        stays =
            λ k h. refl;
      })
  takes_by false e =
      let any : (q : ℕ) → list_any (nat_eq q) (old ++ w ∷ []) ≡ (list_any (nat_eq q) old
      || list_any (nat_eq q) (w ∷ [])) = λ q. list_any-append (nat_eq q) old (w ∷ []) in
      rw (more e) (record {
        here = list_any_at (nat_eq w) (old ++ w ∷ []) (length old) 0
            (omega (arith, length-append old (w ∷ []))) (rw (last_is old w) (nat_eq_self w));
        grows = λ q h. any q ∙ rw h refl;
        only = λ q h. only_by q (list_any (nat_eq q) old) refl (sym (any q) ∙ h);
        longer = omega (arith, length-append old (w ∷ []));
        stays = λ k h. get_or_append_left old (w ∷ []) 0 k h;
      })
    where
      one : (q : ℕ) (b : Bool) → nat_eq q w ≡ b → list_any (nat_eq q) (w ∷ []) ≡ true → q ≡ w
      one q true e h = eqb-true q w e
      one q false e h = absurd (true≢false (sym h ∙ ap (λ b. b || false) e))

      only_by : (q : ℕ) (b : Bool) → list_any (nat_eq q) old ≡ b
          → (list_any (nat_eq q) old || list_any (nat_eq q) (w ∷ [])) ≡ true → Has old q ⊎ (q ≡ w)
      only_by q true e h = inl e
      only_by q false e h = inr (one q (nat_eq q w) refl
          (sym (ap (λ b. b || list_any (nat_eq q) (w ∷ [])) e) ∙ h))

  -- what a set has after a number comes
  pub takes : Takes old new w
  takes = takes_by (list_any (nat_eq w) old) refl
