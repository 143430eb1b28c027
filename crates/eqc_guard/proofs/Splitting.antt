-- What two workers know after a split, and that their fields fit.
use Rattle.std.proofs.Common.{◌≡◌, ℕ, ◌+◌, ◌<◌, List, [], ◌∷◌, ◌++◌, length, max, suc, Option, None}
use Rattle.std.proofs.Common.{refl, sym, ap, subst, ◌∙◌, arith, inl, inr, length-append}
use mathlib.Core.Option.{some}
use lib.ListN.{get_elem?}
use Rattle.atomic_table.specs.Seated.{TableId}
use Rattle.eqc_core.specs.declared.sizes.Sizes.{Sizes}
use Rattle.eqc_core.specs.declared.phase.Phase.{Phase}
use Rattle.eqc_core.specs.View.{View, idle, fresh}
use Rattle.eqc_core.specs.Words.{announced_words}
use Rattle.eqc_core.specs.Lawful.{IsNamed as IsPlaced}
use Rattle.eqc_core.proofs.Names.{times-nil}
use Rattle.eqc_core.specs.State.{IsWithinLimits}
use Rattle.eqc_core.specs.Seating.{splitter}
use Rattle.eqc_core.proofs.Phases.{idle-length}
use Rattle.eqc_guard.specs.Known.{Known, IsKnown, IsNamed}
use Rattle.eqc_guard.specs.Seats.{split_left, split_off}
use Rattle.eqc_guard.specs.Splitting.{HasNumber}
use Rattle.eqc_guard.specs.Standing.{IsSeated}
use Rattle.eqc_guard.proofs.Beginning.{beginner_known}
use Rattle.eqc_guard.proofs.Seats.{fresh_none, split_names}

more : (n : ℕ) → max n (suc n) ≡ suc n
more n = omega arith

named_before : (v : View) (to x : ℕ) → IsNamed (splitter v to) x → IsNamed v x
named_before v to x (inl lt) = inl lt
named_before v to x (inr h) = inr (omega (arith, split_names x v to))

pub split_left_known : (k : Known) → IsKnown k → HasNumber k.core → IsKnown (split_left k)
split_left_known k known has = record {
  limit = known.limit;
  below = λ x two h. known.below x two (omega (arith, split_names x k.core k.core.given));
  canonical = λ x named. known.canonical x (named_before k.core k.core.given x named);
  one = λ x y a b e. known.one x y (named_before k.core k.core.given x a)
      (named_before k.core k.core.given y b) e;
  state = λ ws e. absurd (cc);
  place = known.place;
  noted = known.noted;
  phases = known.phases;
  slots = known.slots;
  word = known.word;
  each = known.each;
  retired = known.retired;
  read = known.read;
  draft = known.draft;
  hand = known.hand;
  entries = known.entries;
  once = known.once;
  few = let g = known.given has.0 in let h = has.1 in
      omega (arith, length-append k.core.out (k.core.given ∷ []));
  given = λ e. let g = known.given has.0 in let h = has.1 in (
    omega (arith, length-append k.core.out (k.core.given ∷ []), more k.core.given),
    omega (arith, more k.core.given),
  );
}

constant : (z : Sizes) (n x : ℕ) → IsNamed (fresh z n) x → x < 2
constant z n x (inl lt) = lt
constant z n x (inr h) = absurd (omega (arith, fresh_none x z n))

pub split_off_known : (z : Sizes) (k : Known) → IsWithinLimits z → k.core.sizes ≡ z → IsKnown k
    → HasNumber k.core → IsKnown (split_off k)
split_off_known z k limits same known has =
    let all = beginner_known z 0 limits (let two = limits.some_names in omega arith) (omega arith)
    in
    record {
      limit = known.limit;
      below = λ x two h. absurd (omega (arith, fresh_none x k.core.sizes k.core.given));
      canonical = λ x named. all.canonical x (inl (constant k.core.sizes k.core.given x named));
      one = λ x y a b e. all.one x y (inl (constant k.core.sizes k.core.given x a))
          (inl (constant k.core.sizes k.core.given y b)) e;
      state = λ ws e. absurd (cc);
      place = subst (λ (y : Sizes). 0 < announced_words y) (sym same) all.place;
      noted = omega arith;
      phases = subst (λ (y : Sizes). (j : ℕ) (p : Phase) → get_elem? (idle y.announcements) j
          ≡ some p → IsPlaced y p) (sym same) all.phases;
      slots = λ x h. absurd (omega (arith, times-nil x));
      word = subst (λ (y : Sizes). 0 < length (idle y.announcements)) (sym same) all.word;
      each = idle-length k.core.sizes.announcements;
      retired = omega arith;
      read = λ r e. absurd (cc);
      draft = λ d e. absurd (cc);
      hand = λ h e. absurd (cc);
      entries = λ h i e is there. absurd (cc);
      once = λ h x is. absurd (cc);
      few = has_some;
      given = λ e. absurd (let g = known.given has.0 in omega arith);
    }
  where
    has_some : 0 < k.core.sizes.workers
    has_some = subst (λ (y : Sizes). 0 < y.workers) (sym same) limits.some_workers

module _ {S : Type 0} (seat_table table : TableId) (key sizes : Sizes) (me : Known
    × List (ℕ × S)) (number held : ℕ) (phases : List Phase)
    (retired noted : List ℕ) (position given : ℕ) (out : List ℕ) (draft : Option ℕ)
    (is : IsSeated seat_table table key sizes me number held phases retired noted position given out
    draft) (has : HasNumber me.0.core) where
  pub left_seated : IsSeated seat_table table key sizes (split_left me.0, me.1) number held phases
      retired noted position (given + 1) (out ++ given ∷ []) draft
  left_seated =
      let old = is.worker in
      record {
        one_table = is.one_table;
        one_key = is.one_key;
        worker = record {
          words = old.words;
          limits = old.limits;
          few_words = old.few_words;
          few_announced = old.few_announced;
          few_workers = old.few_workers;
          sizes = old.sizes;
          active = old.active;
          number = old.number;
          known = split_left_known me.0 old.known has;
        };
        carries = is.carries;
        number_is = is.number_is;
        held_is = is.held_is;
        phases_are = is.phases_are;
        retired_are = is.retired_are;
        noted_are = is.noted_are;
        position_is = is.position_is;
        given_is = omega (arith, is.given_is, more me.0.core.given);
        out_is = λ i. is.out_is i ++ is.given_is i ∷ [];
        draft_is = is.draft_is;
      }

  pub off_seated : (other : TableId) (key' : Sizes) → other ≡ seat_table → key' ≡ key →
      IsSeated {S = S} other other key' sizes (split_off me.0, []) given 0
      (idle sizes.announcements) [] [] 0 0 [] None
  off_seated other key' same same_key =
      let old = is.worker in
      record {
        one_table = refl;
        one_key = same_key ∙ is.one_key;
        worker = record {
          words = ap (λ (t : TableId). t.words) (same ∙ is.one_table) ∙ old.words;
          limits = old.limits;
          few_words = old.few_words;
          few_announced = old.few_announced;
          few_workers = old.few_workers;
          sizes = old.sizes;
          active = refl;
          number = let h = has.1 in let e = ap (λ (y : Sizes). y.workers) old.sizes in omega arith;
          known = split_off_known sizes me.0 old.limits old.sizes old.known has;
        };
        carries = refl;
        number_is = is.given_is;
        held_is = refl;
        phases_are = ap idle (ap (λ (y : Sizes). y.announcements) old.sizes);
        retired_are = refl;
        noted_are = refl;
        position_is = refl;
        given_is = refl;
        out_is = refl;
        draft_is = refl;
      }
