-- The literals of steps in a graph into which another one was copied.
use Rattle.std.proofs.Common.{◌≡◌, ℕ, ◌+◌, ◌<◌, Bool, List, [], ◌∷◌, ◌++◌, length, Option, Some}
use Rattle.std.proofs.Common.{None}
use Rattle.std.proofs.Common.{IfSome, refl, sym, ◌∙◌, ap, inl, inr, arith}
use Rattle.std.proofs.lemmas.Bool.{cases_eq, cases_lt}
use Rattle.std.proofs.lemmas.List.{get_or_push, get_or_append_left, get_or_past, length_push}
use Rattle.eqc_xag.specs.declared.node.Node.{Node}
use Rattle.eqc_sweep.specs.Sweeping.{HasValue}
use Rattle.eqc_sweep.specs.Copying.{AreCopies, IsCopyOf}
use Rattle.eqc_pair.specs.PairOf.{PairOf}
use Rattle.eqc_build.specs.Building.{reference_of}
use Rattle.eqc_build.specs.Steps.{value_at}
use Rattle.eqc_gates.specs.Entering.{AreLiterals}

-- a copy of a literal has its value
pub moved_value : (old new : List Node) (l : ℕ) (f : (ℕ → Bool) → Bool) (x : Option ℕ)
    → HasValue old l f → IfSome x (IsCopyOf old new l) → IfSome x (λ m. HasValue new m f)
moved_value old new l f (Some m) is has =
    record { within = has.within; value = λ a. has.value a ∙ is.value a }
moved_value old new l f None is has = has

-- the literal of a step has the step's value, if it has one
pub literal_has : (p : PairOf) (nodes : List Node) (literals : List (Option ℕ)) (step : ℕ)
    (x : Option ℕ) → AreLiterals p nodes literals → reference_of literals step ≡ x
    → IfSome x (λ l. HasValue nodes l (λ a. value_at p a step))
literal_has p nodes literals step (Some l) are is = are.each step l is
literal_has p nodes literals step None are is = record {}

-- the first k steps were moved
pub record IsMoving (literals table all : List (Option ℕ)) (k : ℕ) : Type 0 where
  pub size : length all ≡ k
  pub moved : (p : PairOf) (old new : List Node) → AreLiterals p old literals
      → AreCopies old new table → AreLiterals p new all

pub moved_begins : (literals table : List (Option ℕ)) → IsMoving literals table [] 0
moved_begins literals table = record {
  size = refl;
  moved = λ p old new are copies. record { each = λ k l is. absurd (let q = is in cc) };
}

pushed_front : (table : List (Option ℕ)) (x : Option ℕ) (i : ℕ) → i < length table
    → reference_of (table ++ x ∷ []) i ≡ reference_of table i
pushed_front table x i inside = get_or_append_left table (x ∷ []) None i inside

pushed_last : (table : List (Option ℕ)) (x : Option ℕ) (k : ℕ) → length table ≡ k
    → reference_of (table ++ x ∷ []) k ≡ x
pushed_last table x k size = get_or_push table x None k size

pushed_past : (table : List (Option ℕ)) (x : Option ℕ) (i : ℕ) → length table < i
    → reference_of (table ++ x ∷ []) i ≡ None
pushed_past table x i past = get_or_past (table ++ x ∷ []) i None
    (omega (arith, past, length_push table x))

-- one more step
pub moved_more : (literals table all more : List (Option ℕ)) (k : ℕ) (x : Option ℕ)
    → IsMoving literals table all k
    → ((p : PairOf) (old new : List Node) → AreLiterals p old literals → AreCopies old new table
    → IfSome x (λ l. HasValue new l (λ a. value_at p a k)))
    → more ≡ all ++ x ∷ [] → IsMoving literals table more (k + 1)
moved_more literals table all more k x so_far value is = rw is (record {
  size = length_push all x ∙ ap (λ n. n + 1) so_far.size;
  moved = λ p old new are copies. record {
    each = λ i l there. elim (cases_lt i k) [
      | inl front ↦ (so_far.moved p old new are copies).each i l
          (sym (pushed_front all x i (omega (arith, front, so_far.size))) ∙ there)
      | inr past ↦ elim (cases_eq i k) [
        | inl last ↦ rw last (some p new x l (value p old new are copies)
            (sym (pushed_last all x k so_far.size) ∙ (ap (reference_of (all ++ x ∷ [])) (sym last)
            ∙ there)))
        | inr apart ↦ absurd (let none : None ≡ Some l =
            sym (pushed_past all x i (omega (arith, past, apart, so_far.size))) ∙ there in cc)
      ]
    ];
  };
})
  where
    some : (p : PairOf) (new : List Node) (x : Option ℕ) (l : ℕ)
        → IfSome x (λ m. HasValue new m (λ a. value_at p a k)) → x ≡ Some l
        → HasValue new l (λ a. value_at p a k)
    some p new (Some m) l value same = (let e : m ≡ l = cc in rw (← e) value)
    some p new None l value same = absurd (let q = same in cc)
