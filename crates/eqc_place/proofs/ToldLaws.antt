-- Laws of tables of values that grow, and of what is read from them.
use Rattle.std.proofs.Common.{◌≡◌, ℕ, ◌+◌, ◌-◌, ◌*◌, ◌/◌, ◌^◌, ◌<◌, ◌≤◌, Bool, true, false, bit_and}
use Rattle.std.proofs.Common.{List, [], ◌∷◌, ◌++◌, length, get_or, take, drop, map, refl, sym, ◌∙◌}
use Rattle.std.proofs.Common.{ap, subst, inl, inr, arith, if◌then◌else◌}
use Rattle.std.specs.Prelude.{All, ◌==◌}
use Rattle.std.specs.Int.{bit_at, from_bool}
use Rattle.std.proofs.lemmas.Bool.{cases_lt}
use Rattle.std.proofs.lemmas.Nat.Bits.{shr_and_one}
use Rattle.std.proofs.lemmas.List.Elements.{All-from_get_or}
use Rattle.std.proofs.lemmas.List.{take_more, take_all, map-append, get_or_push, get_or_append_left}
use Rattle.std.proofs.lemmas.List.{length_push, length-drop, drop_all, drop_more}
use Rattle.eqc_cover.specs.Table.{index_of, table_value}
use Rattle.eqc_cover.proofs.TableLaws.{index_below}
use Rattle.eqc_pair.specs.PairOf.{PairOf}
use Rattle.eqc_build.specs.Steps.{StepsOf, AreSteps, steps_in, uses_of, value_at}
use Rattle.eqc_build.proofs.StepLaws.{uses_before, uses_within}
use Rattle.eqc_place.specs.Values.{AreValues}

-- ---- what a step uses is in a table

-- all of it, where the steps before it are
pub columns_before : (g : StepsOf) (k n : ℕ) (columns : List ℕ) → AreSteps g → k < steps_in g.pair
    → uses_of g k ≡ columns → n ≡ k → All (λ step. step < n) columns
columns_before g k n columns lawful inside are is =
    subst (All (λ step. step < n)) are (All-from_get_or (λ step. step < n) (uses_of g k) 0
    (λ c lt. omega (arith, uses_before g k c lawful inside lt, is)))

pub copied_before : (g : StepsOf) (k n other : ℕ) → AreSteps g → k < steps_in g.pair
    → uses_of g k ≡ other ∷ [] → n ≡ k → other < n
copied_before g k n other lawful inside are is = columns_before g k n (other ∷ []) lawful inside are
    is 0 0 (omega arith)

-- and where all are
pub columns_there : (g : StepsOf) (k n : ℕ) → AreSteps g → k < steps_in g.pair → n ≡ steps_in g.pair
    → All (λ step. step < n) (uses_of g k)
columns_there g k n lawful inside is = All-from_get_or (λ step. step < n) (uses_of g k) 0
    (λ c lt. omega (arith, uses_within g k c lawful inside lt, is))

-- one of them
pub within_table : (table : List Bool) (steps : List ℕ) (c step : ℕ)
    → All (λ s. s < length table) steps → c < length steps → step ≡ get_or steps c 0
    → step < length table
within_table table steps c step all inside is = omega (arith, is, all c 0 inside)

-- ---- the index of values in a truth table, from its last column on

-- what the last c columns come to
pub record IsIndexing (columns : List Bool) (c index : ℕ) : Type 0 where
  pub within : c ≤ length columns
  pub small : index < 64
  pub value : index ≡ index_of (drop (length columns - c) columns)

pub indexing_begins : (columns : List Bool) → IsIndexing columns 0 0
indexing_begins columns = record {
  within = omega arith;
  small = omega arith;
  value =
      ap index_of (sym (drop_all (length columns - 0) columns (omega arith)));
}

pub indexing_more : (columns : List Bool) (c index more : ℕ) (b : Bool) → length columns ≤ 6
    → c < length columns → IsIndexing columns c index →
    b ≡ get_or columns (length columns - 1 - c) false → more ≡ 2 * index + from_bool b
    → IsIndexing columns (c + 1) more
indexing_more columns c index more b few inside so_far is sum = record {
  within = omega (arith, inside);
  small = omega (
    arith,
    here,
    index_below (drop (length columns - (c + 1)) columns)
        (omega (arith, few, length-drop (length columns - (c + 1)) columns)),
  );
  value = here;
}
  where
    place : length columns - 1 - c ≡ length columns - (c + 1)
    place = omega arith

    next : length columns - (c + 1) + 1 ≡ length columns - c
    next = omega (arith, inside)

    split : drop (length columns - (c + 1)) columns ≡ b ∷ drop (length columns - c) columns
    split =
        drop_more columns (length columns - (c + 1)) false (omega (arith, inside))
        ∙ (ap (λ v. v ∷ drop (length columns - (c + 1) + 1) columns)
        (ap (λ i. get_or columns i false) (sym place) ∙ sym is)
        ∙ ap (λ i. b ∷ drop i columns) next)

    said : (v : Bool) → from_bool v ≡ (if v then 1 else 0)
    said true = refl
    said false = refl

    here : more ≡ index_of (drop (length columns - (c + 1)) columns)
    here = sum ∙ (omega (arith, so_far.value, said b) ∙ sym (ap index_of split))

-- the bit at the index of all columns is what the table says of them
pub tabulated_at : (t : ℕ) (columns : List Bool) (c index : ℕ) → length columns ≤ c
    → IsIndexing columns c index → (bit_and (t / 2 ^ index) 1 == 1) ≡ table_value t columns
unfolding table_value
tabulated_at t columns c index whole so_far = ap (λ b. b == 1) (shr_and_one t index
    ∙ ap (bit_at t) (so_far.value ∙ all))
  where
    all : index_of (drop (length columns - c) columns) ≡ index_of columns
    all = ap (λ i. index_of (drop i columns)) (let none : length columns - c ≡ 0 =
        omega (arith, whole) in none)

-- ---- values that are read from a table

-- the first c values of some steps were read
pub record IsReading (table : List Bool) (steps : List ℕ) (c : ℕ) (values : List Bool) : Type 0
  where
    pub size : length values ≡ length (take c steps)
    pub each : (p : PairOf) (a : ℕ → Bool) → AreValues p a table
        → values ≡ map (value_at p a) (take c steps)

pub reading_begins : (table : List Bool) (steps : List ℕ) → IsReading table steps 0 []
reading_begins table steps = record { size = refl; each = λ p a are. refl }

pub reading_more : (table : List Bool) (steps : List ℕ) (c : ℕ) (old new : List Bool)
    → c < length steps → get_or steps c 0 < length table → IsReading table steps c old →
    new ≡ old ++ get_or table (get_or steps c 0) false ∷ [] → IsReading table steps (c + 1) new
reading_more table steps c old new inside there so_far is = record {
  size =
      ap length is
      ∙ (length_push old (get_or table (get_or steps c 0) false)
      ∙ (ap (λ n. n + 1) so_far.size
      ∙ sym (ap length (take_more steps c 0 inside)
      ∙ length_push (take c steps) (get_or steps c 0))));
  each = λ p a are.
      is
      ∙ (rw (so_far.each p a are, are.each (get_or steps c 0) there) refl
      ∙ sym (ap (map (value_at p a)) (take_more steps c 0 inside)
      ∙ map-append (value_at p a) (take c steps) (get_or steps c 0 ∷ [])));
}

pub reading_whole : (table : List Bool) (steps : List ℕ) (c : ℕ) (values : List Bool) (p : PairOf)
    (a : ℕ → Bool) → length steps ≤ c → IsReading table steps c values →
    AreValues p a table → values ≡ map (value_at p a) steps
reading_whole table steps c values p a whole so_far are = so_far.each p a are
    ∙ ap (map (value_at p a)) (take_all c steps whole)

pub reading_length : (table : List Bool) (steps : List ℕ) (c : ℕ) (values : List Bool)
    → length steps ≤ c → IsReading table steps c values → length values ≡ length steps
reading_length table steps c values whole so_far = so_far.size ∙ ap length (take_all c steps whole)

-- ---- a table that grows

-- the first k values are in it
pub record IsFilling (p : PairOf) (a : ℕ → Bool) (table : List Bool) (k : ℕ) : Type 0 where
  pub size : length table ≡ k
  pub values : AreValues p a table

pub filling_begins : (p : PairOf) (a : ℕ → Bool) → IsFilling p a [] 0
filling_begins p a = record {
  size = refl;
  values =
      record { each = λ k inside. absurd (omega (arith, inside)) };
}

pub filling_more : (p : PairOf) (a : ℕ → Bool) (table more : List Bool) (k : ℕ) (v : Bool)
    → IsFilling p a table k → v ≡ value_at p a k → more ≡ table ++ v ∷ [] →
    IsFilling p a more (k + 1)
filling_more p a table more k v so_far value is = rw is (record {
  size = length_push table v ∙ ap (λ n. n + 1) so_far.size;
  values = record {
    each = λ i inside. elim (cases_lt i k) [
      | inl front ↦ get_or_append_left table (v ∷ []) false i (omega (arith, front, so_far.size))
          ∙ so_far.values.each i (omega (arith, front, so_far.size))
      | inr past ↦ (
          let last : i ≡ k = omega (arith, past, inside, so_far.size, length_push table v) in
          ap (λ j. get_or (table ++ v ∷ []) j false) last ∙ (get_or_push table v false k so_far.size
          ∙ (value ∙ ap (value_at p a) (sym last)))
          )
    ];
  };
})
