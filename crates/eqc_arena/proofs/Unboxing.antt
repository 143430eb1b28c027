-- The names of parcels change hands, and boxes are emptied one after the other.
use Rattle.std.proofs.Common.{◌≡◌, ℕ, ◌+◌, ◌*◌, ◌<◌, ◌≤◌, List, [], ◌∷◌, ◌++◌, length, get_or, Some}
use Rattle.std.proofs.Common.{length-append, refl, sym, ap, subst, ◌∙◌, arith, inl, inr}
use native.Mathlib.Decide.{ℕ_discrete}
use Rattle.eqc_core.specs.declared.sizes.Sizes.{Sizes}
use Rattle.eqc_core.specs.View.{View}
use Rattle.eqc_core.specs.Words.{times, cell_names, slots_of}
use Rattle.eqc_core.specs.Moves.{without_each}
use Rattle.eqc_core.specs.Sharing.{boxed}
use Rattle.eqc_core.proofs.Names.{times-append, times-nil, times-same, times-slots_of}
use Rattle.eqc_core.proofs.Names.{times-without_each, two_cases}
use Rattle.eqc_guard.specs.declared.parcel.Parcel.{Parcel}
use Rattle.eqc_guard.specs.declared.parcel.Parcel.TheVariants.{Empty, Task, Done, Stopped}
use Rattle.eqc_guard.specs.Known.{Known, IsHeld}
use Rattle.eqc_guard.specs.Standing.{Standing, Steps}
use Rattle.eqc_guard.specs.Rule.{boxes_from}
use Rattle.eqc_guard.specs.Copying.{box_in, SetsBox}
use Rattle.eqc_guard.specs.Sweeping.{IsSilent}
use Rattle.eqc_guard.specs.Sharing.{parcel_word, parcel_names, parcel_stops, IsWhole, MayPut}
use Rattle.eqc_guard.proofs.Counts.{length-without_all, slots_held}
use Rattle.eqc_guard.proofs.Parcels.{names_of_word, stops_of_word}
use Rattle.eqc_cache.proofs.Trading.{slots_times, slots_length}
use Rattle.eqc_arena.specs.Changing.{Exchanges}
use Rattle.eqc_arena.specs.Unboxing.{HoldsParcel, AreUnboxed, KeepsMarks, NotesStop}
use Rattle.eqc_arena.specs.Emptying.{MayEmpty}
use Rattle.eqc_arena.proofs.Changing.{changed, changed_twice, here, on, names_now, lengths_now}
use Rattle.eqc_arena.proofs.Changing.{quiet_now}
use Rattle.eqc_guard.proofs.Learning.{keeps_on}
use Rattle.eqc_guard.proofs.Snapshots.{snapshots_on}

-- these names are held, each as often as it is there
abbrev pub HasAll : List ℕ → View → Type 0
HasAll names v = (x : ℕ) → times x (slots_of names) ≤ times x v.held

pub first_held : (x : ℕ) (rest : List ℕ) (v : View) → HasAll (x ∷ rest) v → IsHeld v x
first_held x rest v all = elim (two_cases x) [
  | inl t ↦ inl t.1
  | inr t ↦ inr (let e = all x in omega (
    arith,
    slots_times x x rest,
    times-slots_of x (x ∷ []) t.1,
    times-same x x [] refl,
  ))
]

-- a name went, and the others are there
pub rest_held : (x : ℕ) (rest : List ℕ) (old new : Standing)
    → Exchanges (slots_of (x ∷ [])) [] old new → HasAll (x ∷ rest) old.known.core
    → HasAll rest new.known.core
rest_held x rest old new t all y = let e = all y in
    omega (arith, names_now t y, slots_times y x rest, times-nil y)

-- a name goes, and then others go
pub front_goes : (x : ℕ) (rest : List ℕ) {old mid new : Standing}
    → Exchanges (slots_of (x ∷ [])) [] old mid → Exchanges (slots_of rest) [] mid new
    → Exchanges (slots_of (x ∷ rest)) [] old new
front_goes x rest {old} {mid} {new} t next =
    let u = here t next in
    record {
      forest = u.forest ∙ t.forest;
      held = u.held;
      phase = u.phase;
      retired = u.retired;
      read = u.read;
      turn = u.turn;
      stops = u.stops;
      core = changed_twice old.known.core mid.known.core new.known.core t.phase u.phase t.core
          u.core;
      quiet = λ q. u.quiet (quiet_now t q);
      enough = λ y. let e = u.enough y in omega (
        arith,
        names_now t y,
        slots_times y x rest,
        times-nil y,
      );
      names = λ y. omega (arith, u.names y, names_now t y, slots_times y x rest, times-nil y);
      lengths = omega (arith, u.lengths, lengths_now t, slots_length x rest);
      trees = λ y two h. u.trees y two (omega (
        arith,
        names_now t y,
        slots_times y x rest,
        times-nil y,
      )) ∙ t.trees y two (omega (arith, slots_times y x rest));
      snapshots = snapshots_on old.known mid.known new.known t.snapshots u.snapshots;
      copy = keeps_on old.known mid.known new.known t.copy u.copy;
      known = u.known;
    }

-- a box was swapped: the names of the parcel that went in go, and those of the one that came out
-- come
pub swaps : (out given : Parcel) (old new : Standing) → IsWhole out → IsWhole given
    → HoldsParcel old.known.core given
    → Steps old (boxed old.known.core (parcel_word out) (parcel_word given)) new
    → Exchanges (parcel_names given) (parcel_names out) old new
swaps out given old new whole fits enough s =
    changed (parcel_names given) (parcel_names out) (boxed old.known.core (parcel_word out)
    (parcel_word given)) old new s refl enough
    (λ x.
    omega (
      arith,
      times-append x (without_each (slots_of (cell_names (parcel_word given))) held)
          (slots_of (cell_names (parcel_word out))),
      times-without_each x (slots_of (cell_names (parcel_word given))) held (has x),
      ap (times x) goes,
      ap (times x) comes,
    ))
    (omega (
      arith,
      length-append (without_each (slots_of (cell_names (parcel_word given))) held)
          (slots_of (cell_names (parcel_word out))),
      length-without_all (slots_of (cell_names (parcel_word given))) held has,
      ap {B = ℕ} (λ (l : List ℕ). length l) goes,
      ap {B = ℕ} (λ (l : List ℕ). length l) comes,
    ))
  where
    held : List ℕ
    held = old.known.core.held

    goes : slots_of (cell_names (parcel_word given)) ≡ parcel_names given
    goes = names_of_word given fits

    comes : slots_of (cell_names (parcel_word out)) ≡ parcel_names out
    comes = names_of_word out whole

    has : (x : ℕ) → times x (slots_of (cell_names (parcel_word given)))
        ≤ times x old.known.core.held
    has x = let e = enough x in omega (arith, ap (times x) goes)

-- and the stop that came out is noted behind the others
pub notes_stop : (out given : Parcel) (old new : Standing) → IsWhole out →
    Steps old (boxed old.known.core (parcel_word out) (parcel_word given)) new
    → new.known.core.stops ≡ old.known.core.stops ++ parcel_stops out
notes_stop out given old new whole s = ap (λ (v : View). v.stops) s.known.core
    ∙ ap (λ (l : List ℕ). old.known.core.stops ++ l) (stops_of_word out whole)

-- what came out may be given back
pub comes_held : (out : Parcel) {gone : List ℕ} {old new : Standing}
    → Exchanges gone (parcel_names out) old new → HoldsParcel new.known.core out
comes_held out t x = let e = t.enough x in omega (arith, names_now t x)

-- and is: what came goes again
pub came_went : {gone names : List ℕ} {old mid new : Standing} → Exchanges gone names old mid
    → Exchanges names [] mid new → Exchanges gone [] old new
came_went t u = on t [] (here t u) (λ x. omega arith) (λ x. omega (arith, times-nil x))
    (omega arith)

-- no box is said to be empty yet
pub none_unboxed : (k : Known) → AreUnboxed 0 k k
none_unboxed k ws e = (ws, e, λ b lt. absurd (omega arith))

pub one_unboxed : (n : ℕ) (a b c : Known) → b.core.sizes ≡ a.core.sizes → AreUnboxed n a b
    → SetsBox n 0 b c → AreUnboxed (n + 1) a c
one_unboxed n a b c same first then ws e =
    let t = first ws e in
    let u = then t.0 t.1 in
    (u.0, u.1, λ d lt. go d lt (ℕ_discrete d n))
  where
    go : (d : ℕ) → d < n + 1 → Dec (d ≡ n) → box_in a (then (first ws e).0 (first ws e).1).0 d ≡ 0
    go d lt (yes is) = let u = then (first ws e).0 (first ws e).1 in
        ap (λ (m : ℕ). box_in a u.0 m) is ∙ subst (λ (z : Sizes). get_or u.0 (boxes_from z + n) 0
        ≡ 0) same u.2
    go d lt (no is) =
        let t = first ws e in
        let u = then t.0 t.1 in
        subst (λ (z : Sizes). get_or u.0 (boxes_from z + d) 0 ≡ get_or t.0 (boxes_from z + d) 0)
        same (u.3 d is) ∙ t.2 d (omega arith)

-- a worker that is alone, holds nothing and has emptied the boxes may empty the forest
pub may_empty : (old new : Standing) (ws : List ℕ) → old.known.copy ≡ Some ws → old.known.core.held
    ≡ [] → IsSilent new.known.core → Exchanges [] [] old new
    → AreUnboxed (16 * old.known.core.sizes.workers) old.known new.known → MayEmpty new.known
may_empty old new ws copy none silent t empty =
    let u = empty ws copy in
    let same : old.known.core.sizes ≡ new.known.core.sizes = sym (ap (λ (v : View). v.sizes) t.core)
    in
    record {
      words = u.0;
      copy = u.1;
      holds = none_left new.known.core.held (let e = ap {B = ℕ} (λ (l : List ℕ). length l) none in
          omega (arith, lengths_now t));
      silent = silent;
      boxes = λ b lt. subst (λ (z : Sizes). get_or u.0 (boxes_from z + b) 0 ≡ 0) same
          (u.2 b (subst (λ (z : Sizes). b < 16 * z.workers) (sym same) lt));
    }
  where
    none_left : (xs : List ℕ) → length xs ≤ 0 → xs ≡ []
    none_left [] le = refl
    none_left (x ∷ xs) le = absurd (omega arith)

-- a parcel that may be put into a box is held
pub put_held : (k : Known) (b : ℕ) (parcel : Parcel) → MayPut k b parcel → HoldsParcel k.core parcel
put_held k b Empty may x = omega (arith, times-nil x)
put_held k b (Task op f g) may x = slots_held (f.number ∷ g.number ∷ []) k.core.held may.parcel_is x
put_held k b (Done e) may x = slots_held (e.r.number ∷ e.f.number ∷ e.g.number ∷ []) k.core.held
    may.parcel_is.0 x
put_held k b (Stopped stop f g) may x = slots_held (f.number ∷ g.number ∷ []) k.core.held
    may.parcel_is.0 x

-- a swap leaves the search where it was, and notes the stop that came
pub swap_marks : (out given : Parcel) (old new : Standing) → IsWhole out
    → Steps old (boxed old.known.core (parcel_word out) (parcel_word given)) new
    → KeepsMarks old.known.core new.known.core
swap_marks out given old new whole s = record {
  sizes = ap (λ (v : View). v.sizes) s.known.core;
  turn = ap (λ (v : View). v.turn) s.known.core;
  stops = λ x. omega (
    arith,
    ap (times x) (notes_stop out given old new whole s),
    times-append x old.known.core.stops (parcel_stops out),
  );
}

pub swap_notes : (out given : Parcel) (old new : Standing) → IsWhole out
    → Steps old (boxed old.known.core (parcel_word out) (parcel_word given)) new
    → NotesStop out new.known.core
swap_notes out given old new whole s x =
    omega (
      arith,
      ap (times x) (notes_stop out given old new whole s),
      times-append x old.known.core.stops (parcel_stops out),
    )
