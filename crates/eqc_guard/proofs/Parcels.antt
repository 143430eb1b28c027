-- A parcel and its word.
use Rattle.std.proofs.Common.{◌≡◌, ◌≢◌, ◌⊎◌, ℕ, ◌+◌, ◌^◌, ◌<◌, ◌≤◌, List, [], ◌∷◌, refl, sym, ap}
use Rattle.std.proofs.Common.{subst, arith, inl, inr}
use Rattle.std.proofs.lemmas.Bool.{lt-ltb, le-ltb}
use Rattle.eqc_tree.specs.Operation.{tag_of}
use Rattle.eqc_tree.specs.Word.{cell_word, cell_tag, cell_result}
use Rattle.eqc_tree.specs.declared.stopping.Stop.{Stop}
use Rattle.eqc_tree.specs.declared.stopping.Stop.TheVariants.{NodeLimit, Memory, References}
use Rattle.eqc_tree.specs.declared.stopping.Stop.TheVariants.{Threads}
use Rattle.eqc_core.specs.Words.{times, cell_names, slots_of, operation_of, result_of}
use Rattle.eqc_core.specs.Moves.{AreHeld}
use Rattle.eqc_core.specs.Sharing.{stop_in}
use Rattle.eqc_core.proofs.Sharing.{tag_range}
use Rattle.eqc_core.proofs.Names.{times-nil, times-same, times-other, times_more}
use Rattle.eqc_guard.specs.declared.parcel.Parcel.{Parcel}
use Rattle.eqc_guard.specs.declared.parcel.Parcel.TheVariants.{Empty, Task, Done, Stopped}
use Rattle.eqc_guard.specs.Known.{Known, IsKnown}
use Rattle.eqc_guard.specs.Sharing.{number_of, parcel_word, parcel_names, parcel_stops, IsWhole}
use Rattle.eqc_guard.specs.Sharing.{IsGenuine, HasParcel, MayPut, IsParcelWord, Receives}
use Rattle.eqc_guard.specs.Sharing.{MayPutWord}
use Rattle.eqc_guard.proofs.Counts.{slots_held}
use Rattle.eqc_guard.proofs.Filling.{Fields, fields, no_names}
use Rattle.eqc_guard.proofs.Making.{given_held, held_small}

-- the number in a word that is not empty
pub some_number : (word : ℕ) → IsParcelWord word → word ≢ 0 → 0 < cell_tag word
unfolding operation_of
some_number word (inl e) nz = absurd (nz e)
some_number word (inr (inl p)) nz = let r = tag_range p.0 in let e = p.1 in omega arith
some_number word (inr (inr (inl t))) nz = let from = t.from in omega arith
some_number word (inr (inr (inr s))) nz = let from = s.from in omega arith

-- a word above the results has a task's number or a stop's, and no result
pub above_results : (word : ℕ) → IsParcelWord word → 4 < cell_tag word → (cell_result word ≡ 0)
    × ((cell_tag word < 9) ⊎ (12 < cell_tag word))
unfolding operation_of result_of
above_results word (inl e) more = absurd (omega arith)
above_results word (inr (inl p)) more = absurd (let r = tag_range p.0 in let e = p.1 in omega arith)
above_results word (inr (inr (inl t))) more = (t.no_result, inl t.upto)
above_results word (inr (inr (inr s))) more = (s.no_result, inr s.from)

-- the numbers of stops in a box
stop_range : (stop : Stop) → stop ≢ Threads → (12 < number_of stop) × (number_of stop < 16)
stop_range References other = (omega arith, omega arith)
stop_range NodeLimit other = (omega arith, omega arith)
stop_range Memory other = (omega arith, omega arith)
stop_range Threads other = absurd (other refl)

-- names of a worker's fit their fields
module _ (k : Known) (known : IsKnown k) where
  pair_small : (x y : ℕ) → AreHeld (x ∷ y ∷ []) k.core.held → (x < 2 ^ 20) × (y < 2 ^ 20)
  pair_small x y held = (
    held_small k x known (given_held k (x ∷ y ∷ []) x held
        (omega (arith, times-same x x (y ∷ []) refl))),
    held_small k y known (given_held k (x ∷ y ∷ []) y held (times_more y x (y ∷ [])
        (omega (arith, times-same y y [] refl)))),
  )

  three_small : (x y t : ℕ) → AreHeld (x ∷ y ∷ t ∷ []) k.core.held → (y < 2 ^ 20) × (t < 2 ^ 20)
      × (x < 2 ^ 20)
  three_small x y t held = (
    held_small k y known (given_held k (x ∷ y ∷ t ∷ []) y held (times_more y x (y ∷ t ∷ [])
        (omega (arith, times-same y y (t ∷ []) refl)))),
    held_small k t known (given_held k (x ∷ y ∷ t ∷ []) t held (times_more t x (y ∷ t ∷ [])
        (times_more t y (t ∷ []) (omega (arith, times-same t t [] refl))))),
    held_small k x known (given_held k (x ∷ y ∷ t ∷ []) x held
        (omega (arith, times-same x x (y ∷ t ∷ []) refl))),
  )

  -- a parcel that a worker has is whole
  pub is_whole : (parcel : Parcel) → HasParcel k parcel → IsWhole parcel
  is_whole Empty has = tt
  is_whole (Task op f g) has = pair_small f.number g.number has
  is_whole (Done e) has = three_small e.r.number e.f.number e.g.number has.0
  is_whole (Stopped stop f g) has = let p = pair_small f.number g.number has.0 in (p.0, p.1, has.1)

-- the names in a word
names_are : (t f g r word : ℕ) → Fields t f g r word → cell_names word ≡ r ∷ f ∷ g ∷ []
names_are t f g r word w = λ i. w.result i ∷ w.first i ∷ w.second i ∷ []

-- the fields of a parcel's word without a result
open_fields : (t f g : ℕ) → f < 2 ^ 20 → g < 2 ^ 20 → Fields t f g 0 (cell_word t f g 0)
open_fields t f g first second = fields t f g 0 first second (omega arith)

-- the names of a parcel are those of its word
pub names_of_word : (parcel : Parcel) → IsWhole parcel → slots_of (cell_names (parcel_word parcel))
    ≡ parcel_names parcel
names_of_word Empty whole =
    ap slots_of (names_are 0 0 0 0 0 (open_fields 0 0 0 (omega arith) (omega arith)))
names_of_word (Task op f g) whole = ap slots_of (names_are (tag_of op + 4) f.number g.number 0
    (parcel_word (Task op f g)) (open_fields (tag_of op + 4) f.number g.number whole.0 whole.1))
names_of_word (Done e) whole =
    ap slots_of (names_are (tag_of e.op) e.f.number e.g.number e.r.number (parcel_word (Done e))
    (fields (tag_of e.op) e.f.number e.g.number e.r.number whole.0 whole.1 whole.2))
names_of_word (Stopped stop f g) whole = ap slots_of (names_are (number_of stop) f.number g.number 0
    (parcel_word (Stopped stop f g)) (open_fields (number_of stop) f.number g.number whole.0
    whole.1))

-- the names of a word without a result are held where its operands are
open_held : (t f g word : ℕ) (held : List ℕ) → Fields t f g 0 word → AreHeld (f ∷ g ∷ []) held
    → AreHeld (cell_names word) held
open_held t f g word held w has x two =
    let apart : 0 ≢ x = λ e. absurd (omega arith) in
    omega (
      arith,
      ap (times x) (names_are t f g 0 word w),
      times-other x 0 (f ∷ g ∷ []) apart,
      has x two,
    )

-- the word of a parcel may be put into a box where the parcel may
pub may_put : (k : Known) (b : ℕ) (parcel : Parcel) → IsWhole parcel → MayPut k b parcel
    → MayPutWord k b (parcel_word parcel)
may_put k b Empty whole may = record {
  ready = may.ready;
  there = may.there;
  right = inl (inl refl);
  held = no_names k.core.held;
  room = may.room;
}
may_put k b (Task op f g) whole may =
    let w = open_fields (tag_of op + 4) f.number g.number whole.0 whole.1 in
    let tag = w.tag in
    let range = tag_range op in
    record {
      ready = may.ready;
      there = may.there;
      right = inr (inl (record { from = omega arith; upto = omega arith; no_result = w.result }));
      held = open_held (tag_of op + 4) f.number g.number (parcel_word (Task op f g)) k.core.held w
          may.parcel_is;
      room = may.room;
    }
may_put k b (Done e) whole may =
    let w = fields (tag_of e.op) e.f.number e.g.number e.r.number whole.0 whole.1 whole.2 in
    let word : ℕ = parcel_word (Done e) in
    record {
      ready = may.ready;
      there = may.there;
      right = inl (inr (record {
        operation = e.op;
        tag = w.tag;
        right =
            λ a. rw (w.first, w.second, w.result) (may.parcel_is.1 a);
      }));
      held = subst (λ (l : List ℕ). AreHeld l k.core.held)
          (sym (names_are (tag_of e.op) e.f.number e.g.number e.r.number (parcel_word (Done e)) w))
          may.parcel_is.0;
      room = may.room;
    }
may_put k b (Stopped stop f g) whole may =
    let w = open_fields (number_of stop) f.number g.number whole.0 whole.1 in
    let tag = w.tag in
    let range = stop_range stop whole.2 in
    record {
      ready = may.ready;
      there = may.there;
      right = inr (inr (record { from = omega arith; upto = omega arith; no_result = w.result }));
      held = open_held (number_of stop) f.number g.number (parcel_word (Stopped stop f g))
          k.core.held w may.parcel_is.0;
      room = may.room;
    }

-- a result that came out is right
pub is_genuine : (k : Known) (parcel : Parcel) → IsWhole parcel → Receives (parcel_word parcel) k
    → IsGenuine k parcel
is_genuine k Empty whole got = tt
is_genuine k (Task op f g) whole got = tt
is_genuine k (Done e) whole got = λ a.
    let w = fields (tag_of e.op) e.f.number e.g.number e.r.number whole.0 whole.1 whole.2 in
    rw (w.first, w.second, w.result) at (got.right e.op w.tag a)
is_genuine k (Stopped stop f g) whole got = tt

-- a worker that has a parcel holds its names
pub has_names : (k : Known) (parcel : Parcel) → HasParcel k parcel → (x : ℕ)
    → times x (parcel_names parcel) ≤ times x k.core.held
has_names k Empty has x = omega (arith, times-nil x)
has_names k (Task op f g) has x = slots_held (f.number ∷ g.number ∷ []) k.core.held has x
has_names k (Done e) has x = slots_held (e.r.number ∷ e.f.number ∷ e.g.number ∷ []) k.core.held
    has.0 x
has_names k (Stopped stop f g) has x = slots_held (f.number ∷ g.number ∷ []) k.core.held has.0 x

-- a word notes a stop where its number is one
no_stop : (word n : ℕ) → operation_of word ≡ n → n < 13 → stop_in word ≡ []
no_stop word n e small = rw e (rw (le-ltb 12 n (omega arith)) refl)

one_stop : (word n : ℕ) → operation_of word ≡ n → 12 < n → stop_in word ≡ n ∷ []
one_stop word n e great = rw e (rw (lt-ltb 12 n great) refl)

-- the stop of a parcel is that of its word
pub stops_of_word : (parcel : Parcel) → IsWhole parcel → stop_in (parcel_word parcel)
    ≡ parcel_stops parcel
stops_of_word Empty whole = no_stop 0 0 ((open_fields 0 0 0 (omega arith) (omega arith)).tag)
    (omega arith)
stops_of_word (Task op f g) whole = no_stop (parcel_word (Task op f g)) (tag_of op + 4)
    ((open_fields (tag_of op + 4) f.number g.number whole.0 whole.1).tag) (let r = tag_range op in
    omega arith)
stops_of_word (Done e) whole =
    no_stop (parcel_word (Done e)) (tag_of e.op) ((fields (tag_of e.op) e.f.number e.g.number
    e.r.number whole.0 whole.1 whole.2).tag) (let r = tag_range e.op in omega arith)
stops_of_word (Stopped stop f g) whole = one_stop (parcel_word (Stopped stop f g)) (number_of stop)
    ((open_fields (number_of stop) f.number g.number whole.0 whole.1).tag)
    (stop_range stop whole.2).0
