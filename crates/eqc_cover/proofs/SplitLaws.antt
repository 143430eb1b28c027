-- Laws of truth tables that are split at a column.
use Rattle.std.proofs.Common.{◌≡◌, ℕ, ◌-◌, ◌^◌, ◌<◌, ◌≤◌, Bool, true, false, not, ◌&&◌, ◌||◌, cond}
use Rattle.std.proofs.Common.{eqb, List, length, get_or, refl, sym, ◌∙◌, ap, inl, inr, arith}
use Rattle.std.proofs.Common.{bit_and}
use Rattle.std.proofs.lemmas.Bool.{false≢true, eqb-true, or_cases}
use Rattle.std.proofs.lemmas.List.{get_or-map}
use Rattle.std.specs.Borrow.{Bor}
use Rattle.eqc_tree.specs.Holding.{Entry, says}
use Rattle.eqc_tree.specs.Operation.{operate}
use Rattle.eqc_tree.specs.declared.operation.Op.TheVariants.{Xor}
use Rattle.eqc_cover.specs.Matching.{some_match, agrees, said}
use Rattle.eqc_cover.specs.Table.{table_value, Tabulates, IsCofactor, DependsOnOpen}
use Rattle.eqc_cover.specs.Splitting.{StaysOpen}
use Rattle.eqc_cover.proofs.TableLaws.{table-and, table-not, table-zero, table-ones, expansion}
use Rattle.eqc_cover.proofs.RowLaws.{length_said}

and_true : (b : Bool) → (b && true) ≡ b
and_true true = refl
and_true false = refl

not_not : (b : Bool) → not (not b) ≡ b
not_not true = refl
not_not false = refl

-- a table that is constant
pub constant_value : (t : ℕ) (vs : List Bool) → length vs ≤ 6
    → (eqb t 0 || eqb t 18446744073709551615) ≡ true → not (eqb t 0) ≡ table_value t vs
constant_value t vs few constant = elim (or_cases (eqb t 0) (eqb t 18446744073709551615) constant) [
  | inl none ↦ ap not none ∙ sym (ap (λ u. table_value u vs) (eqb-true t 0 none) ∙ table-zero vs)
  | inr all ↦ ap (λ u. not (eqb u 0)) (eqb-true t 18446744073709551615 all)
      ∙ sym (ap (λ u. table_value u vs) (eqb-true t 18446744073709551615 all) ∙ table-ones vs few)
]

-- the one table is true wherever the other is
pub implied : (t o : ℕ) → o < 2 ^ 64 → eqb (bit_and t (18446744073709551615 - o)) 0 ≡ true
    → (vs : List Bool) → length vs ≤ 6 → table_value t vs ≡ true → table_value o vs ≡ true
implied t o fits none vs few =
    by (table_value t vs) (table_value o vs)
    (ap (λ b. table_value t vs && b) (sym (table-not o vs fits few))
    ∙ (sym (table-and t (18446744073709551615 - o) vs)
    ∙ (ap (λ u. table_value u vs) (eqb-true _ 0 none) ∙ table-zero vs)))
  where
    by : (a b : Bool) → (a && not b) ≡ false → a ≡ true → b ≡ true
    by true true e is = refl
    by true false e is = absurd (false≢true (sym e))
    by false b e is = absurd (false≢true is)

-- ---- where a column is true

pub all_true : (t : ℕ) (x : Bool) (vs : List Bool) → t ≡ 18446744073709551615 → length vs ≤ 6
    → x ≡ (x && table_value t vs)
all_true t x vs is few = sym (ap (λ u. x && table_value u vs) is
    ∙ (ap (λ b. x && b) (table-ones vs few) ∙ and_true x))

pub opposite_true : (t : ℕ) (x : Bool) (vs : List Bool) → t < 2 ^ 64 → length vs ≤ 6
    → (x && not (table_value (18446744073709551615 - t) vs)) ≡ (x && table_value t vs)
opposite_true t x vs fits few = ap (λ b. x && not b) (table-not t vs fits few)
    ∙ ap (λ b. x && b) (not_not (table_value t vs))

-- ---- columns on which a table depends

pub none_stays : (high low : ℕ) → StaysOpen high low 0
none_stays high low = record {
  depends = λ n few opens above below. record {
    alike =
        λ vs ws size other same. table-zero vs ∙ sym (table-zero ws);
  };
}

pub opposite_open : (t n : ℕ) (opens : List Bool) → t < 2 ^ 64 → n ≤ 6 → DependsOnOpen t n opens
    → DependsOnOpen (18446744073709551615 - t) n opens
opposite_open t n opens fits few depends =
    record {
      alike = λ vs ws size other same. table-not t vs fits (omega arith)
          ∙ (ap not (depends.alike vs ws size other same) ∙ sym (table-not t ws fits (omega arith)));
    }

pub opposite_stays : (t : ℕ) → t < 2 ^ 64 → StaysOpen t t (18446744073709551615 - t)
opposite_stays t fits = record {
  depends = λ n few opens above below. opposite_open t n opens fits
      few above;
}

-- what is made of one of two tables
pub all_parts_stay : (high low rest t : ℕ) → rest ≡ 18446744073709551615 → StaysOpen rest rest t
    → StaysOpen high low t
all_parts_stay high low rest t is stays = record {
  depends = λ n few opens above below.
      let open_rest : DependsOnOpen rest n opens =
      rw is (record {
        alike = λ vs ws size other same. table-ones vs (omega arith)
            ∙ sym (table-ones ws (omega arith));
      }) in
      stays.depends n few opens open_rest open_rest;
}

pub high_parts_stay : (high low rest t : ℕ) → rest ≡ high → StaysOpen rest rest t
    → StaysOpen high low t
high_parts_stay high low rest t is stays =
    record {
      depends = λ n few opens above below. let open_rest : DependsOnOpen rest n opens =
          rw is above in stays.depends n few opens open_rest open_rest;
    }

pub opposite_parts_stay : (high low rest t : ℕ) → high < 2 ^ 64 → rest ≡ 18446744073709551615 - high
    → StaysOpen rest rest t → StaysOpen high low t
opposite_parts_stay high low rest t fits is stays =
    record {
      depends = λ n few opens above below. let open_rest : DependsOnOpen rest n opens =
          rw is (opposite_open high n opens fits few above) in stays.depends n few opens open_rest
          open_rest;
    }

-- ---- both parts

pub by_xor : (high low : ℕ) (x : Bool) (vs : List Bool) → low < 2 ^ 64 → length vs ≤ 6
    → high ≡ 18446744073709551615 - low
    → operate Xor (table_value low vs) (x && table_value 18446744073709551615 vs)
    ≡ cond x (table_value high vs) (table_value low vs)
by_xor high low x vs fits few is =
    ap (λ b. operate Xor (table_value low vs) (x && b)) (table-ones vs few)
    ∙ by x (table_value low vs) (table_value high vs) (ap (λ u. table_value u vs) is
    ∙ table-not low vs fits few)
  where
    by : (x l h : Bool) → h ≡ not l → operate Xor l (x && true) ≡ cond x h l
    by true true h is = sym is
    by true false h is = sym is
    by false true h is = refl
    by false false h is = refl

pub by_or : (high low : ℕ) (x : Bool) (vs : List Bool) → (table_value low vs ≡ true
    → table_value high vs ≡ true)
    → (table_value low vs || (x && table_value high vs)) ≡ cond x (table_value high vs)
    (table_value low vs)
by_or high low x vs = by x (table_value low vs) (table_value high vs)
  where
    by : (x l h : Bool) → (l ≡ true → h ≡ true) → (l || (x && h)) ≡ cond x h l
    by true true h more = sym (more refl)
    by true false h more = refl
    by false true h more = refl
    by false false h more = refl

pub by_and_not : (high low : ℕ) (x : Bool) (vs : List Bool) → high < 2 ^ 64 → length vs ≤ 6
    → (table_value high vs ≡ true → table_value low vs ≡ true)
    → (table_value low vs && not (x && table_value (18446744073709551615 - high) vs))
    ≡ cond x (table_value high vs) (table_value low vs)
by_and_not high low x vs fits few more = ap (λ b. table_value low vs && not (x && b))
    (table-not high vs fits few) ∙ by x (table_value low vs) (table_value high vs) more
  where
    by : (x l h : Bool) → (h ≡ true → l ≡ true) → (l && not (x && not h)) ≡ cond x h l
    by true l true more = and_true l ∙ more refl
    by true true false more = refl
    by true false false more = refl
    by false l h more = and_true l

pub by_three : (high low : ℕ) (x : Bool) (vs : List Bool)
    → ((table_value low vs && not x) || (x && table_value high vs)) ≡ cond x (table_value high vs)
    (table_value low vs)
by_three high low x vs = by x (table_value low vs) (table_value high vs)
  where
    by : (x l h : Bool) → ((l && not x) || (x && h)) ≡ cond x h l
    by true true h = refl
    by true false h = refl
    by false true h = refl
    by false false h = refl

-- ---- rows that have a table

pub on_said : (t n : ℕ) (on : Bool) (rows : List (List ℕ)) (vs : List Bool) → length vs ≡ n
    → Tabulates t n (some_match rows) → on ≡ true → table_value t vs
    ≡ agrees on (some_match rows vs)
on_said t n on rows vs size tabulates is = tabulates.value vs size
    ∙ ap (λ b. agrees b (some_match rows vs)) (sym is)

pub off_said : (t n : ℕ) (on : Bool) (rows : List (List ℕ)) (vs : List Bool) → length vs ≡ n → n ≤ 6
    → t < 2 ^ 64 →
    Tabulates t n (some_match rows) → on ≡ false → table_value (18446744073709551615 - t) vs
    ≡ agrees on (some_match rows vs)
off_said t n on rows vs size few fits tabulates is =
    table-not t vs fits (omega arith) ∙ (ap not (tabulates.value vs size) ∙ (by (some_match rows vs)
    ∙ ap (λ b. agrees b (some_match rows vs)) (sym is)))
  where
    by : (b : Bool) → not b ≡ agrees false b
    by true = refl
    by false = refl

-- ---- columns that are references

pub few_said : {X : Type 0} (entry : X → Entry) (columns : List (Bor X)) (a : ℕ → Bool)
    → length columns ≤ 6 → length (said entry columns a) ≤ 6
few_said entry columns a few = omega (arith, few, length_said entry columns a)

pub said_at : {X : Type 0} (entry : X → Entry) (columns : List (Bor X)) (x : Bor X) (j : ℕ) (a : ℕ
    → Bool) → j < length columns →
    x ≡ get_or columns j x → says (entry x.now) a ≡ get_or (said entry columns a) j false
said_at entry columns x j a inside is = ap (λ r. says (entry r.now) a) is
    ∙ sym (get_or-map (λ r. says (entry r.now) a) columns j x false inside)

module _ {X : Type 0} (entry : X → Entry) (columns : List (Bor X)) (x : Bor X) (t j high low : ℕ)
    (few : length columns ≤ 6) (inside : j < length columns)
    (is : x ≡ get_or columns j x) (top : IsCofactor t j true high) (bottom : IsCofactor t j false
    low) (a : ℕ → Bool) where
  -- a table by what is left of it under each value of a column
  pub by_column : cond (says (entry x.now) a) (table_value high (said entry columns a))
      (table_value low (said entry columns a)) ≡ table_value t (said entry columns a)
  by_column =
      ap (λ b. cond b (table_value high (said entry columns a))
      (table_value low (said entry columns a))) (said_at entry columns x j a inside is)
      ∙ expansion t j high low (said entry columns a) top bottom (omega (
        arith,
        inside,
        length_said entry columns a,
      )) (few_said entry columns a few)

  -- where nothing is left of it under one value
  pub by_true_column : low ≡ 0 → (says (entry x.now) a && table_value high (said entry columns a))
      ≡ table_value t (said entry columns a)
  by_true_column none =
      sym (ap (λ b. cond (says (entry x.now) a) (table_value high (said entry columns a)) b)
      (ap (λ u. table_value u (said entry columns a)) none ∙ table-zero (said entry columns a))
      ∙ by (says (entry x.now) a) (table_value high (said entry columns a)))
      ∙ by_column
    where
      by : (b h : Bool) → cond b h false ≡ (b && h)
      by true h = refl
      by false h = refl
