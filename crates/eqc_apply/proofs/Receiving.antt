-- An operation is taken out of a box: its operands are counted, one after the other.
use Rattle.std.proofs.Common.{◌≡◌, ℕ, ◌<◌, List, [], ◌∷◌, ◌++◌, length, get_or, set, sym, subst}
use Rattle.std.proofs.Common.{◌∙◌, arith, inl, inr}
use native.Mathlib.Decide.{ℕ_discrete}
use Rattle.std.proofs.lemmas.List.{get_or-set_same, get_or-set_other}
use Rattle.eqc_core.specs.Words.{slots_of}
use Rattle.eqc_core.proofs.Names.{times-append, times-nil}
use Rattle.eqc_guard.specs.Standing.{Standing}
use Rattle.eqc_cache.proofs.Trading.{slots_times}
use Rattle.eqc_arena.specs.Changing.{Exchanges}
use Rattle.eqc_apply.specs.Names.{Has, IsCounted, Settles}
use Rattle.eqc_apply.specs.Before.{IsBefore, IsSeat}
use Rattle.eqc_apply.proofs.Once.{has_after, has_as, has_same, held_counted, changes_before}
use Rattle.eqc_apply.proofs.Once.{seat_of, seat_trans}

-- what is counted stays so where one name more is
pub counted_set : (x y : ℕ) (counts : List ℕ) → x < length counts → IsCounted counts y
    → IsCounted (set counts x 1) y
counted_set x y counts room (inl small) = inl small
counted_set x y counts room (inr some) = inr (elim (ℕ_discrete x y) [
  | yes e ↦ subst (λ (z : ℕ). 0 < get_or (set counts x 1) z 0) e
      (omega (arith, get_or-set_same counts x 1 0 room))
  | no d ↦ omega (arith, get_or-set_other counts x y 1 0 (λ e. d (sym e)))
])

pub counted_now : (x : ℕ) (counts : List ℕ) → x < length counts → IsCounted (set counts x 1) x
counted_now x counts room = inr (omega (arith, get_or-set_same counts x 1 0 room))

pub counted_as : (old new : List ℕ) → ((y : ℕ) → get_or new y 0 ≡ get_or old y 0) → (x : ℕ)
    → IsCounted old x → IsCounted new x
counted_as old new same x (inl small) = inl small
counted_as old new same x (inr some) = inr (omega (arith, same x))

-- two names came, and there is room for their counts
module _ (f g n : ℕ) (s0 s1 : Standing) (counts room : List ℕ) (h : Has [] n s0 counts)
    (t : Exchanges [] (slots_of (f ∷ g ∷ [])) s0 s1) (same : (y : ℕ)
    → get_or room y 0 ≡ get_or counts y 0) where
  pub first_has : Has (slots_of (f ∷ []) ++ slots_of (g ∷ [])) n s1 room
  first_has = has_as (slots_of (f ∷ g ∷ [])) (slots_of (f ∷ []) ++ slots_of (g ∷ [])) n s1 room
      (λ y. omega (
        arith,
        times-append y (slots_of (f ∷ [])) (slots_of (g ∷ [])),
        slots_times y f (g ∷ []),
      ))
      (has_same (slots_of (f ∷ g ∷ [])) n s1 counts room same
      (has_after t [] (slots_of (f ∷ g ∷ [])) n counts (λ y. omega (arith, times-nil y)) h))

  -- the first one is counted
  module _ (s2 : Standing) (one : List ℕ) (has : (m : ℕ) (more : List ℕ)
      → Has (slots_of (f ∷ []) ++ more) m s1 room → Has more m s2 one)
      (settles : Settles room s1 s2) (still : (x : ℕ) → IsCounted room x → IsCounted one x) where
    pub second_has : Has (slots_of (g ∷ []) ++ []) n s2 one
    second_has = has_as (slots_of (g ∷ [])) (slots_of (g ∷ []) ++ []) n s2 one
        (λ y. omega (arith, times-append y (slots_of (g ∷ [])) [], times-nil y))
        (has n (slots_of (g ∷ [])) first_has)

    -- and the second one
    module _ (s3 : Standing) (next : Settles one s2 s3) where
      pub both_before : IsBefore s0.known s3.known
      both_before = record {
        held = λ x p. next.held x (still x (counted_as counts room same x (held_counted h x p)));
        tree = λ x p.
            let c = counted_as counts room same x (held_counted h x p) in
            next.tree x (still x c) ∙ (settles.tree x c ∙ (changes_before t).tree x p);
      }

      pub both_seat : IsSeat s0.known.core s3.known.core
      both_seat = seat_trans (seat_of t) (seat_trans settles.seat next.seat)
