-- Numbers with one bit are the powers of two.
use Rattle.std.proofs.Common.{◌≡◌, ℕ, zero, suc, ◌+◌, ◌*◌, ◌/◌, ◌%◌, ◌^◌, ◌<◌, ◌≤◌, Bool, true}
use Rattle.std.proofs.Common.{false, not, if◌then◌else◌, Option, Some, None, ◌==◌, count_ones, refl}
use Rattle.std.proofs.Common.{sym, ap, subst, ◌∙◌, arith, inl, inr, get_or, leb, zero-add}
use Rattle.std.proofs.Math.Nat.{pow-suc}
use Rattle.std.proofs.Math.Pow.{pow_mono}
use Rattle.std.proofs.lemmas.Nat.{zero_from_ones, ones_le_self, ones_cat, pow_pos}
use Rattle.std.proofs.lemmas.Bool.{cases_lt, cases_Bool, and_parts, leb-true, eqb-true, eq-eqb}
use Rattle.std.proofs.lemmas.List.Folds.{list_any_at, Any-from_list_any}
use Rattle.std.proofs.lemmas.List.FromFn.{length-range_with_len, get_or-range_with_len}
use Rattle.std.specs.Int.Count.{ones_step}
use Rattle.std.specs.List.{range_with_len}
use Rattle.eqc_report.specs.declared.options.Options.{Options}
use Rattle.eqc_report.specs.Options.{is_cell_count, is_between, options_code}

-- a number with one bit is a power of two
one_bit : (d n : ℕ) → n ≤ d → count_ones n ≡ 1 → (k : ℕ) × (n ≡ 2 ^ k)
one_bit zero n h e = absurd (omega (arith, ones_le_self n))
one_bit (suc d) n h e =
    let s = ones_step n in
    elim (cases_lt (n % 2) 1) [
      | inl even ↦ let half = one_bit d (n / 2) (omega arith) (omega arith) in
          (suc half.0, omega (arith, pow-suc 2 half.0, half.1))
      | inr odd ↦ let none = zero_from_ones (n / 2) (omega arith) in (0, omega arith)
    ]

-- a power of two has one bit
pow_bit : (k : ℕ) → count_ones (2 ^ k) ≡ 1
pow_bit k =
    let whole : 2 ^ k ≡ 1 * 2 ^ k + 0 = omega arith in
    let one : count_ones 1 + count_ones 0 ≡ 1 = omega (arith, ones_step 1, ones_le_self 0) in
    ap count_ones whole ∙ ones_cat k 1 0 (pow_pos k) ∙ one

-- the tests of a number of cells agree with their definition
pub cell_count_at : (n : ℕ) → count_ones n ≡ 1 → n ≤ 1048576 → is_cell_count n ≡ true
unfolding is_cell_count
cell_count_at n one few =
    let k = one_bit n n (omega arith) one in
    let small : k.0 < 21 = elim (cases_lt k.0 21) [
      | inl l ↦ l
      | inr g ↦
          absurd (omega (arith, pow_mono {i = 21} {j = k.0} g, k.1))
    ] in
    list_any_at (λ k. n == 2 ^ k) (range_with_len 0 21) k.0 0
    (omega (arith, length-range_with_len 0 21))
    (eq-eqb n (2 ^ get_or (range_with_len 0 21) k.0 0) (k.1
    ∙ ap (λ e. 2 ^ e) (sym (get_or-range_with_len 0 21 k.0 0 small ∙ zero-add k.0))))

pub cell_count_bits : (n : ℕ) → is_cell_count n ≡ true → (count_ones n ≡ 1) × (n ≤ 1048576)
unfolding is_cell_count
cell_count_bits n h =
    let found = Any-from_list_any (λ k. n == 2 ^ k) (range_with_len 0 21) h in
    let small : found.0 < 21 = omega (arith, found.2, length-range_with_len 0 21) in
    let at : found.1 ≡ found.0 = sym found.3 ∙ get_or-range_with_len 0 21 found.0 found.1 small
    ∙ zero-add found.0 in
    let power : n ≡ 2 ^ found.0 = eqb-true n (2 ^ found.1) found.4 ∙ ap (λ e. 2 ^ e) at in (
      ap count_ones power ∙ pow_bit found.0,
      omega (
        arith,
        power,
        pow_mono {i = found.0} {j =
            20} (omega arith),
      ),
    )

-- the tests of a number of cells agree with their definition
pub not_cell_count : (n : ℕ) → (count_ones n ≡ 1 → ⊥) → false ≡ is_cell_count n
not_cell_count n h = elim (cases_Bool (is_cell_count n)) [
  | inl is ↦
      absurd (h (cell_count_bits n is).0)
  | inr isnt ↦ sym isnt
]

pub cell_count_below : (n : ℕ) → count_ones n ≡ 1 → leb n 1048576 ≡ is_cell_count n
cell_count_below n one =
    elim (cases_lt 1048576 n) [
      | inl above ↦ elim (cases_Bool (is_cell_count n)) [
        | inl is ↦
            absurd (omega (arith, (cell_count_bits n is).1))
        | inr isnt ↦ grind arith
      ]
      | inr below ↦ grind (arith, cell_count_at n one below)
    ]

abbrev is_fault : Option ℕ → Type 0
is_fault None = ⊥
is_fault (Some code) = Unit {0}

abbrev in_turn : Bool → Bool → Bool → Bool → Bool → Bool → Option ℕ
in_turn a b c d e f = if not a then Some 81 else if not b then Some 82 else if not c then Some 83
    else if not d then Some 84 else if not e then Some 85 else if not f then Some 86 else None

-- where no code comes all tests hold
all_tests : (a b c d e f : Bool) → in_turn a b c d e f ≡ None → (a ≡ true) × (b ≡ true) × (c ≡ true)
    × (d ≡ true) × (e ≡ true) × (f ≡ true)
all_tests false b c d e f none = absurd (subst is_fault none tt)
all_tests true false c d e f none = absurd (subst is_fault none tt)
all_tests true true false d e f none = absurd (subst is_fault none tt)
all_tests true true true false e f none = absurd (subst is_fault none tt)
all_tests true true true true false f none = absurd (subst is_fault none tt)
all_tests true true true true true false none = absurd (subst is_fault none tt)
all_tests true true true true true true none = (refl, refl, refl, refl, refl, refl)

-- options in their ranges pass each test
each_test : (o : Options) → options_code o ≡ None →
    (is_between 1 64 o.workers ≡ true) × (is_between 1 1048574 o.nodes ≡ true)
    × (is_cell_count o.cells ≡ true) × (is_between 0 16 o.forks ≡ true)
    × (is_between 0 65535 o.inputs ≡ true) × (is_between 0 2147483647 o.bytes ≡ true)
each_test o e =
    all_tests (is_between 1 64 o.workers) (is_between 1 1048574 o.nodes) (is_cell_count o.cells)
    (is_between 0 16 o.forks) (is_between 0 65535 o.inputs)
    (is_between 0 2147483647 o.bytes) e

between : (low high n : ℕ) → is_between low high n ≡ true → (low ≤ n) × (n ≤ high)
between low high n e = let both = and_parts _ _ e in (leb-true low n both.0, leb-true n high both.1)

some_cells : (n : ℕ) → is_cell_count n ≡ true → (1 ≤ n) × (n ≤ 1048576)
some_cells n e = let b = cell_count_bits n e in (
  let one = b.0 in omega (arith, ones_le_self n),
  b.1,
)

-- a team may be made with options in their ranges
pub options_in_range : (o : Options) → options_code o ≡ None → ((1 ≤ o.nodes) × (o.nodes ≤ 1048574))
    × ((1 ≤ o.cells) × (o.cells ≤ 1048576)) × ((1 ≤ o.workers) × (o.workers ≤ 64)) × (o.forks ≤ 16)
options_in_range o e =
    let t = each_test o e in (
      between 1 1048574 o.nodes t.1,
      some_cells o.cells t.2,
      between 1 64 o.workers t.0,
      (between 0 16 o.forks t.3).1,
    )

-- netlists may have as many inputs as two bytes count
pub inputs_in_range : (o : Options) → options_code o ≡ None → o.inputs ≤ 65535
inputs_in_range o e = (between 0 65535 o.inputs (each_test o e).4).1

-- and their texts fewer than 2^31 bytes
pub bytes_in_range : (o : Options) → options_code o ≡ None → o.bytes ≤ 2147483647
bytes_in_range o e = (between 0 2147483647 o.bytes (each_test o e).5).1
