-- Laws of truth tables: their bits, their columns and their cofactors.
use Rattle.std.proofs.Common.{◌≡◌, ℕ, zero, suc, ◌+◌, ◌-◌, ◌*◌, ◌/◌, ◌%◌, ◌^◌, ◌<◌, ◌≤◌, min, max}
use Rattle.std.proofs.Common.{Bool, true, false, not, ◌&&◌, ◌||◌, cond, eqb, List, [], ◌∷◌, length}
use Rattle.std.proofs.Common.{get_or, set, replicate, refl, sym, ◌∙◌, ap, inl, inr, arith, pow-suc}
use Rattle.std.proofs.Common.{pow_mono, pow_pos}
use Rattle.std.specs.Int.{bit_at, w64}
use Rattle.std.specs.Prelude.{bit_and, bit_or}
use Rattle.std.proofs.lemmas.Bool.{agree_below_at, cases_lt, cases_Bool, cases_eq, eqb-true}
use Rattle.std.proofs.lemmas.Bool.{false≢true}
use Rattle.std.proofs.lemmas.List.{length-set, get_or-set_same, get_or-set_other, set-get_or}
use Rattle.std.proofs.lemmas.List.{same_lists, get_or_default, get_or_past, length-replicate}
use Rattle.std.proofs.lemmas.List.Sums.{sum_by-set}
use Rattle.std.specs.List.{count_by}
use Rattle.std.proofs.lemmas.Nat.{shr-shr, shr_split, one_shl}
use Rattle.std.proofs.Math.Nat.{add-div_right}
use Rattle.std.proofs.lemmas.Nat.Bits.{bit_at_lowest, bit_at-suc, bit_at-zero, bit_at-lt}
use Rattle.std.proofs.lemmas.Nat.Bits.{bit_at_and, bit_at_or, bit_at_not, bit_at_ones, bit_at_above}
use Rattle.std.proofs.lemmas.Nat.Bits.{bit_at_cat_low, bit_at_cat_high}
use Rattle.eqc_cover.specs.Table.{index_of, table_value, IsColumn, SaysOfColumn, IsCofactor}
use Rattle.eqc_cover.specs.Table.{DependsOnOpen}

-- ---- the number of some values

pub index_fits : (vs : List Bool) → index_of vs < 2 ^ length vs
index_fits [] = omega arith
index_fits (true ∷ vs) = omega (arith, index_fits vs, pow-suc 2 (length vs))
index_fits (false ∷ vs) = omega (arith, index_fits vs, pow-suc 2 (length vs))

pub index_below : (vs : List Bool) → length vs ≤ 6 → index_of vs < 64
index_below vs few = omega (arith, index_fits vs, pow_mono {i = length vs} {j = 6} few)

halved : (n : ℕ) → (2 * n) / 2 ≡ n
halved n = omega arith

halved_odd : (n : ℕ) → (1 + 2 * n) / 2 ≡ n
halved_odd n = omega arith

pub bit_index : (vs : List Bool) (j : ℕ) → j < length vs → bit_at (index_of vs) j
    ≡ cond (get_or vs j false) 1 0
bit_index [] j inside = absurd (omega arith)
bit_index (true ∷ vs) zero inside = bit_at_lowest (1 + 2 * index_of vs) ∙ omega arith
bit_index (false ∷ vs) zero inside = bit_at_lowest (0 + 2 * index_of vs) ∙ omega arith
bit_index (true ∷ vs) (suc j) inside = bit_at-suc (1 + 2 * index_of vs) j
    ∙ (ap (λ n. bit_at n j) (halved_odd (index_of vs)) ∙ bit_index vs j (omega arith))
bit_index (false ∷ vs) (suc j) inside = bit_at-suc (0 + 2 * index_of vs) j
    ∙ (ap (λ n. bit_at n j) (omega (arith, halved (index_of vs))) ∙ bit_index vs j (omega arith))

-- a column that becomes true, and one that becomes false
pub index_raised : (vs : List Bool) (j : ℕ) → j < length vs → get_or vs j false ≡ false
    → index_of (set vs j true) ≡ index_of vs + 2 ^ j
index_raised [] j inside is = absurd (omega arith)
index_raised (true ∷ vs) zero inside is = absurd (false≢true (sym is))
index_raised (false ∷ vs) zero inside is = omega arith
index_raised (true ∷ vs) (suc j) inside is = omega (
  arith,
  index_raised vs j (omega arith) is,
  pow-suc 2 j,
)
index_raised (false ∷ vs) (suc j) inside is = omega (
  arith,
  index_raised vs j (omega arith) is,
  pow-suc 2 j,
)

pub index_lowered : (vs : List Bool) (j : ℕ) → j < length vs → get_or vs j false ≡ true
    → index_of (set vs j false) + 2 ^ j ≡ index_of vs
index_lowered [] j inside is = absurd (omega arith)
index_lowered (false ∷ vs) zero inside is = absurd (false≢true is)
index_lowered (true ∷ vs) zero inside is = omega arith
index_lowered (true ∷ vs) (suc j) inside is = omega (
  arith,
  index_lowered vs j (omega arith) is,
  pow-suc 2 j,
)
index_lowered (false ∷ vs) (suc j) inside is = omega (
  arith,
  index_lowered vs j (omega arith) is,
  pow-suc 2 j,
)

-- ---- bits

-- a place further on, the bit of the step is the opposite
pub bit_flips : (k j : ℕ) → bit_at (k + 2 ^ j) j ≡ 1 - bit_at k j
bit_flips k j = omega (arith, add-div_right k {k = 2 ^ j} (pow_pos j))

-- a number with a bit is as large as the bit
pub bit_reaches : (i j : ℕ) → bit_at i j ≡ 1 → 2 ^ j ≤ i
bit_reaches i j is = elim (cases_lt i (2 ^ j)) [
  | inl low ↦
      absurd (omega (arith, bit_at_above i j j low (omega arith)))
  | inr high ↦ high
]

-- a bit of a number that is shifted down, or up
pub bit_down : (n k i : ℕ) → bit_at (n / 2 ^ k) i ≡ bit_at n (k + i)
bit_down n k i = ap (λ x. x % 2) (shr-shr n k i)

pub bit_up_low : (n k i : ℕ) → i < k → bit_at (n * 2 ^ k) i ≡ 0
bit_up_low n k i low = ap (λ x. bit_at x i) (sym zero_more) ∙ (bit_at_cat_low n k 0 i low
    ∙ bit_at-zero i)
  where
    zero_more : n * 2 ^ k + 0 ≡ n * 2 ^ k
    zero_more = omega arith

pub bit_up_high : (n k i : ℕ) → k ≤ i → bit_at (n * 2 ^ k) i ≡ bit_at n (i - k)
bit_up_high n k i high = ap (λ x. bit_at x i) (sym zero_more)
    ∙ bit_at_cat_high n k 0 i (pow_pos k) high
  where
    zero_more : n * 2 ^ k + 0 ≡ n * 2 ^ k
    zero_more = omega arith

-- a bit below the width stays where the rest is cut off
pub bit_cut : (n w i : ℕ) → i < w → bit_at (n % 2 ^ w) i ≡ bit_at n i
bit_cut n w i low = sym (bit_at_cat_low (n / 2 ^ w) w (n % 2 ^ w) i low)
    ∙ ap (λ x. bit_at x i) (shr_split n w)

-- ---- values

pub table-and : (t u : ℕ) (vs : List Bool) → table_value (bit_and t u) vs
    ≡ (table_value t vs && table_value u vs)
unfolding table_value
table-and t u vs = ap (λ b. eqb b 1) (bit_at_and t u (index_of vs))
    ∙ by (bit_at t (index_of vs)) (bit_at u (index_of vs)) (bit_at-lt t (index_of vs))
    (bit_at-lt u (index_of vs))
  where
    by : (a b : ℕ) → a < 2 → b < 2 → eqb (min a b) 1 ≡ (eqb a 1 && eqb b 1)
    by zero zero h k = refl
    by zero (suc zero) h k = refl
    by (suc zero) zero h k = refl
    by (suc zero) (suc zero) h k = refl
    by (suc (suc a)) b h k = absurd (omega arith)
    by a (suc (suc b)) h k = absurd (omega arith)

pub table-or : (t u : ℕ) (vs : List Bool) → table_value (bit_or t u) vs
    ≡ (table_value t vs || table_value u vs)
unfolding table_value
table-or t u vs = ap (λ b. eqb b 1) (bit_at_or t u (index_of vs))
    ∙ by (bit_at t (index_of vs)) (bit_at u (index_of vs)) (bit_at-lt t (index_of vs))
    (bit_at-lt u (index_of vs))
  where
    by : (a b : ℕ) → a < 2 → b < 2 → eqb (max a b) 1 ≡ (eqb a 1 || eqb b 1)
    by zero zero h k = refl
    by zero (suc zero) h k = refl
    by (suc zero) zero h k = refl
    by (suc zero) (suc zero) h k = refl
    by (suc (suc a)) b h k = absurd (omega arith)
    by a (suc (suc b)) h k = absurd (omega arith)

pub table-not : (t : ℕ) (vs : List Bool) → t < 2 ^ 64 → length vs ≤ 6
    → table_value (18446744073709551615 - t) vs ≡ not (table_value t vs)
unfolding table_value
table-not t vs fits few =
    ap (λ b. eqb b 1) (bit_at_not w64 t (index_of vs) fits (index_below vs few))
    ∙ by (bit_at t (index_of vs)) (bit_at-lt t (index_of vs))
  where
    by : (a : ℕ) → a < 2 → eqb (1 - a) 1 ≡ not (eqb a 1)
    by zero h = refl
    by (suc zero) h = refl
    by (suc (suc a)) h = absurd (omega arith)

pub table-zero : (vs : List Bool) → table_value 0 vs ≡ false
unfolding table_value
table-zero vs = ap (λ b. eqb b 1) (bit_at-zero (index_of vs))

pub table-ones : (vs : List Bool) → length vs ≤ 6 → table_value 18446744073709551615 vs ≡ true
unfolding table_value
table-ones vs few = ap (λ b. eqb b 1) (bit_at_ones 64 (index_of vs) (index_below vs few))

-- a column's table says its value
pub table_of_column : (t j : ℕ) → IsColumn t j → SaysOfColumn t j (λ v. v)
unfolding table_value
table_of_column t j is =
    record {
      value = λ vs inside few. ap (λ b. eqb b 1) (is.at (index_of vs) (index_below vs few)
          ∙ bit_index vs j inside) ∙ by (get_or vs j false);
    }
  where
    by : (b : Bool) → eqb (cond b 1 0) 1 ≡ b
    by true = refl
    by false = refl

-- ---- cofactors

module _ (m j : ℕ) (column : IsColumn m j) (fits : m < 2 ^ 64) where
  abbrev half : ℕ → ℕ
  half x = bit_and x (18446744073709551615 - m)

  -- the bits where the column is false, there and where it is true
  abbrev pub spread : ℕ → ℕ
  spread x = bit_or (half x) (half x * 2 ^ (2 ^ j) % 2 ^ 64)

  half_at : (x i : ℕ) → i < 64 → bit_at (half x) i ≡ min (bit_at x i) (1 - bit_at i j)
  half_at x i low = bit_at_and x (18446744073709551615 - m) i
      ∙ ap (min (bit_at x i)) (bit_at_not w64 m i fits low ∙ ap (λ d. 1 - d) (column.at i low))

  moved_low : (x i : ℕ) → i < 64 → i < 2 ^ j → bit_at (half x * 2 ^ (2 ^ j) % 2 ^ 64) i ≡ 0
  moved_low x i low below = bit_cut (half x * 2 ^ (2 ^ j)) 64 i low
      ∙ bit_up_low (half x) (2 ^ j) i below

  moved_high : (x i : ℕ) → i < 64 → 2 ^ j ≤ i → bit_at (half x * 2 ^ (2 ^ j) % 2 ^ 64) i
      ≡ min (bit_at x (i - 2 ^ j)) (1 - bit_at (i - 2 ^ j) j)
  moved_high x i low above = bit_cut (half x * 2 ^ (2 ^ j)) 64 i low
      ∙ (bit_up_high (half x) (2 ^ j) i above ∙ half_at x (i - 2 ^ j) (omega arith))

  before : (i : ℕ) → 2 ^ j ≤ i → bit_at i j ≡ 1 - bit_at (i - 2 ^ j) j
  before i above = ap (λ k. bit_at k j) (sym back) ∙ bit_flips (i - 2 ^ j) j
    where
      back : i - 2 ^ j + 2 ^ j ≡ i
      back = omega arith

  pub spread_low : (x i : ℕ) → i < 64 → bit_at i j ≡ 0 → bit_at (spread x) i ≡ bit_at x i
  spread_low x i low is = bit_at_or (half x) (half x * 2 ^ (2 ^ j) % 2 ^ 64) i
      ∙ elim (cases_lt i (2 ^ j)) [
        | inl below ↦ omega (arith, half_at x i low, moved_low x i low below, bit_at-lt x i)
        | inr above ↦ omega (
          arith,
          half_at x i low,
          moved_high x i low above,
          before i above,
          bit_at-lt x i,
          bit_at-lt (i - 2 ^ j) j,
        )
      ]

  pub spread_high : (x i : ℕ) → i < 64 → bit_at i j ≡ 1 → bit_at (spread x) i ≡ bit_at x (i - 2 ^ j)
  spread_high x i low is =
      let above = bit_reaches i j is in
      bit_at_or (half x) (half x * 2 ^ (2 ^ j) % 2 ^ 64) i
      ∙ omega (
        arith,
        half_at x i low,
        moved_high x i low above,
        before i above,
        bit_at-lt x (i - 2 ^ j),
        bit_at-lt (i - 2 ^ j) j,
      )

  bit_here : (vs : List Bool) (b : Bool) → j < length vs → get_or vs j false ≡ b
      → bit_at (index_of vs) j ≡ cond b 1 0
  bit_here vs b inside is = bit_index vs j inside ∙ ap (λ v. cond v 1 0) is

  same_set : (vs : List Bool) (b : Bool) → get_or vs j false ≡ b → set vs j b ≡ vs
  same_set vs b is = ap (set vs j) (sym is) ∙ set-get_or vs j false

  -- the half where the column is false
  pub low_half : (t : ℕ) → IsCofactor t j false (spread t)
  unfolding table_value
  low_half t = record {
    value = λ vs inside few. ap (λ b. eqb b 1) (elim (cases_Bool (get_or vs j false)) [
      | inl is ↦ spread_high t (index_of vs) (index_below vs few) (bit_here vs true inside is)
          ∙ ap (bit_at t) (omega (arith, index_lowered vs j inside is))
      | inr is ↦ spread_low t (index_of vs) (index_below vs few) (bit_here vs false inside is)
          ∙ ap (λ ws. bit_at t (index_of ws)) (sym (same_set vs false is))
    ]);
  }

  -- the half where it is true
  pub high_half : (t : ℕ) → IsCofactor t j true (spread (t / 2 ^ (2 ^ j)))
  unfolding table_value
  high_half t = record {
    value = λ vs inside few. ap (λ b. eqb b 1) (elim (cases_Bool (get_or vs j false)) [
      | inl is ↦
          let one = bit_here vs true inside is in
          spread_high (t / 2 ^ (2 ^ j)) (index_of vs) (index_below vs few) one
          ∙ (bit_down t (2 ^ j) (index_of vs - 2 ^ j)
          ∙ (ap (bit_at t) (omega (arith, bit_reaches (index_of vs) j one))
          ∙ ap (λ ws. bit_at t (index_of ws)) (sym (same_set vs true is))))
      | inr is ↦
          spread_low (t / 2 ^ (2 ^ j)) (index_of vs) (index_below vs few) (bit_here vs false inside
          is)
          ∙ (bit_down t (2 ^ j) (index_of vs)
          ∙ ap (bit_at t) (omega (arith, index_raised vs j inside is)))
    ]);
  }

-- both, with the number of places as it is computed
pub low_cofactor : (t m j places : ℕ) (b : Bool) → IsColumn m j → m < 2 ^ 64 → places ≡ 2 ^ j
    → b ≡ false
    → IsCofactor t j b (bit_or (bit_and t (18446744073709551615 - m))
    (bit_and t (18446744073709551615 - m) * 2 ^ places % 18446744073709551616))
low_cofactor t m j places b column fits e f = rw (e, f) (low_half m j column fits t)

pub high_cofactor : (t m j places : ℕ) (b : Bool) → IsColumn m j → m < 2 ^ 64 → places ≡ 2 ^ j
    → b ≡ true
    → IsCofactor t j b (bit_or (bit_and (t / 2 ^ places) (18446744073709551615 - m))
    (bit_and (t / 2 ^ places) (18446744073709551615 - m) * 2 ^ places % 18446744073709551616))
high_cofactor t m j places b column fits e f = rw (e, f) (high_half m j column fits t)

-- a shift by the places of a column
pub places_of : (j : ℕ) → j < 6 → 1 * 2 ^ j % 4294967296 ≡ 2 ^ j
places_of j small = one_shl j 32 (omega arith)

pub few_places : (j : ℕ) → j < 6 → 1 * 2 ^ j % 4294967296 < 64
few_places j small = omega (arith, places_of j small, pow_mono {i = j} {j = 5} (omega arith))

-- the tables of the columns
pub columns_are : (j : ℕ) → j < 6 →
    IsColumn (get_or (12297829382473034410 ∷ 14757395258967641292 ∷ 17361641481138401520
    ∷ 18374966859414961920 ∷ 18446462603027742720 ∷ 18446744069414584320 ∷ []) j 0) j
columns_are zero small =
    record {
      at = λ i low. eqb-true _ _ (agree_below_at (λ k. eqb (bit_at 12297829382473034410 k)
          (bit_at k 0)) (λ k. true) 64 i refl low);
    }
columns_are (suc zero) small =
    record {
      at = λ i low. eqb-true _ _ (agree_below_at (λ k. eqb (bit_at 14757395258967641292 k)
          (bit_at k 1)) (λ k. true) 64 i refl low);
    }
columns_are (suc (suc zero)) small =
    record {
      at = λ i low. eqb-true _ _ (agree_below_at (λ k. eqb (bit_at 17361641481138401520 k)
          (bit_at k 2)) (λ k. true) 64 i refl low);
    }
columns_are (suc (suc (suc zero))) small =
    record {
      at = λ i low. eqb-true _ _ (agree_below_at (λ k. eqb (bit_at 18374966859414961920 k)
          (bit_at k 3)) (λ k. true) 64 i refl low);
    }
columns_are (suc (suc (suc (suc zero)))) small =
    record {
      at = λ i low. eqb-true _ _ (agree_below_at (λ k. eqb (bit_at 18446462603027742720 k)
          (bit_at k 4)) (λ k. true) 64 i refl low);
    }
columns_are (suc (suc (suc (suc (suc zero))))) small =
    record {
      at = λ i low. eqb-true _ _ (agree_below_at (λ k. eqb (bit_at 18446744069414584320 k)
          (bit_at k 5)) (λ k. true) 64 i refl low);
    }
columns_are (suc (suc (suc (suc (suc (suc j)))))) small = absurd (omega arith)

-- Shannon's expansion
pub expansion : (t j high low : ℕ) (vs : List Bool) → IsCofactor t j true high
    → IsCofactor t j false low → j < length vs → length vs ≤ 6 →
    cond (get_or vs j false) (table_value high vs) (table_value low vs) ≡ table_value t vs
expansion t j high low vs h l inside few = elim (cases_Bool (get_or vs j false)) [
  | inl is ↦ ap (λ b. cond b (table_value high vs) (table_value low vs)) is ∙ (h.value vs inside few
      ∙ ap (table_value t) (ap (set vs j) (sym is) ∙ set-get_or vs j false))
  | inr is ↦ ap (λ b. cond b (table_value high vs) (table_value low vs)) is ∙ (l.value vs inside few
      ∙ ap (table_value t) (ap (set vs j) (sym is) ∙ set-get_or vs j false))
]

-- ---- open columns

pub all_open : (t n : ℕ) → n ≤ 6 → DependsOnOpen t n (true ∷ true ∷ true ∷ true ∷ true ∷ true ∷ [])
all_open t n few =
    record {
      alike = λ vs ws size other same.
          ap (table_value t) (same_lists vs ws (size ∙ sym other) (λ k d inside. elsewhere vs ws k d
          (omega arith) (omega arith) (same k (omega arith) (is_open k (omega arith)))));
    }
  where
    is_open : (k : ℕ) → k < 6 → get_or (true ∷ true ∷ true ∷ true ∷ true ∷ true ∷ []) k false ≡ true
    is_open zero h = refl
    is_open (suc zero) h = refl
    is_open (suc (suc zero)) h = refl
    is_open (suc (suc (suc zero))) h = refl
    is_open (suc (suc (suc (suc zero)))) h = refl
    is_open (suc (suc (suc (suc (suc zero))))) h = refl
    is_open (suc (suc (suc (suc (suc (suc k)))))) h = absurd (omega arith)

    elsewhere : (vs ws : List Bool) (k : ℕ) (d : Bool) → k < length vs → k < length ws
        → get_or vs k false ≡ get_or ws k false → get_or vs k d ≡ get_or ws k d
    elsewhere vs ws k d h i e = get_or_default vs k d false h ∙ (e ∙ get_or_default ws k false d i)

pub one_closed : (t n j c : ℕ) (b : Bool) (opens : List Bool) → n ≤ 6 → j < n → IsCofactor t j b c
    → DependsOnOpen t n opens → DependsOnOpen c n (set opens j false)
one_closed t n j c b opens few inside cofactor depends = record {
  alike = λ vs ws size other same.
      cofactor.value vs (omega arith) (omega arith)
      ∙ (depends.alike (set vs j b) (set ws j b) (length-set vs j b ∙ size) (length-set ws j b
      ∙ other) (λ q lt is. elim (cases_eq q j) [
        | inl here ↦ rw here (get_or-set_same vs j b false (omega arith)
            ∙ sym (get_or-set_same ws j b false (omega arith)))
        | inr apart ↦ get_or-set_other vs j q b false apart
            ∙ (same q lt (get_or-set_other opens j q false false apart ∙ is)
            ∙ sym (get_or-set_other ws j q b false apart))
      ])
      ∙ sym (cofactor.value ws (omega arith) (omega arith)));
}

-- where no column is open the table says one thing
pub none_open : (t n : ℕ) (opens vs : List Bool) → DependsOnOpen t n opens
    → ((j : ℕ) → j < n → get_or opens j false ≡ false) → length vs ≡ n
    → eqb (t % 2) 1 ≡ table_value t vs
unfolding table_value
none_open t n opens vs depends closed size =
    ap (λ b. eqb b 1) (sym (bit_at_lowest t) ∙ ap (bit_at t) (sym (index_none n)))
    ∙ sym (depends.alike vs (replicate n false) size (length-replicate n false)
    (λ j lt is. absurd (false≢true (sym (closed j lt) ∙ is))))
  where
    index_none : (n : ℕ) → index_of (replicate n false) ≡ 0
    index_none zero = refl
    index_none (suc n) = omega (arith, index_none n)

-- closing one leaves fewer open
pub fewer_open : (opens : List Bool) (j : ℕ) → get_or opens j false ≡ true
    → count_by (λ b. b) (set opens j false) < count_by (λ b. b) opens
fewer_open opens j is = elim (cases_lt j (length opens)) [
  | inl inside ↦ omega (
    arith,
    sum_by-set (λ (b : Bool). cond b 1 0) opens j false false inside,
    ap {B = ℕ} (λ b. cond b 1 0) is,
  )
  | inr past ↦ absurd (false≢true (sym (get_or_past opens j false past) ∙ is))
]
