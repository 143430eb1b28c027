-- Laws of splits: what they say where more come, what the rows of a cover say as splits, and the
-- references that say it.
use Rattle.std.proofs.Common.{◌≡◌, ℕ, zero, suc, ◌+◌, ◌-◌, ◌^◌, ◌<◌, ◌≤◌, Bool, true, false, not}
use Rattle.std.proofs.Common.{cond, List, [], ◌∷◌, ◌++◌, length, map, take, drop, get_or, refl, sym}
use Rattle.std.proofs.Common.{◌∙◌, ap, subst, arith, add-one, drop-cons, ◌==◌, Ok, Err, Result}
use Rattle.std.proofs.Common.{IfOk, eqb-true}
use Rattle.std.specs.Borrow.{Bor}
use Rattle.std.proofs.Math.ListN.{get_or-append}
use Rattle.std.proofs.Math.Seq.{get_or-append_seam}
use Rattle.std.proofs.lemmas.List.{length-append, length-drop, take-append-drop, map-append}
use Rattle.std.proofs.lemmas.List.{take_more, take_all, length-take-le, get_or-map}
use Rattle.std.proofs.lemmas.List.Sums.{sum_by-cons, sum_by-append}
use Rattle.eqc_tree.specs.Holding.{Entry, Holding, IsHeld, weight, copies, says, Loses, Keeps}
use Rattle.eqc_tree.proofs.HoldingLemmas.{counts_itself}
use Rattle.eqc_cover.specs.declared.splits.Split.{Split}
use Rattle.eqc_cover.specs.declared.splits.Split.TheVariants.{Table, Choice}
use Rattle.eqc_cover.specs.declared.splits.Choice.{Choice as ChoiceOf}
use Rattle.eqc_cover.specs.Matching.{AreHeld, agrees, said, some_match, cofactor, constrains_first}
use Rattle.eqc_cover.specs.Matching.{has_free_row}
use Rattle.eqc_cover.specs.Making.{Makes}
use Rattle.eqc_cover.specs.Table.{table_value, Tabulates}
use Rattle.eqc_cover.specs.Splits.{last_columns, split_value, values_after, value_of, Grows}
use Rattle.eqc_cover.specs.Splits.{IsMadeAt, IsChosenAt, tally, AreOwned, Gathers, SaySplits}
use Rattle.eqc_cover.proofs.HeldLaws.{held_more}
use Rattle.eqc_cover.proofs.MatchingLaws.{expansion, map_drop}
use Rattle.eqc_cover.proofs.RowLaws.{free_row, cofactors_alike, length_said}
use Rattle.eqc_cover.proofs.SplitLaws.{on_said, off_said}

-- ---- one split more

after_more : (splits : List Split) (s : Split) (vs made : List Bool)
    → values_after (splits ++ s ∷ []) vs made ≡ values_after splits vs made
    ++ split_value s (values_after splits vs made) vs ∷ []
after_more [] s vs made = refl
after_more (t ∷ splits) s vs made = after_more splits s vs (made ++ split_value t made vs ∷ [])

pub after_length : (splits : List Split) (vs made : List Bool)
    → length (values_after splits vs made) ≡ length made + length splits
after_length [] vs made = omega arith
after_length (s ∷ splits) vs made =
    let more : length (made ++ split_value s made vs ∷ []) ≡ length made + 1 =
    length-append made (split_value s made vs ∷ []) in
    omega (arith, after_length splits vs (made ++ split_value s made vs ∷ []), more)

after_parts : (xs ys : List Split) (vs made : List Bool) → values_after (xs ++ ys) vs made
    ≡ values_after ys vs (values_after xs vs made)
after_parts [] ys vs made = refl
after_parts (s ∷ xs) ys vs made = after_parts xs ys vs (made ++ split_value s made vs ∷ [])

-- those before say what they said
after_before : (splits : List Split) (vs made : List Bool) (k : ℕ) → k < length made
    → get_or (values_after splits vs made) k false ≡ get_or made k false
after_before [] vs made k h = refl
after_before (s ∷ splits) vs made k h =
    let more : length (made ++ split_value s made vs ∷ []) ≡ length made + 1 =
    length-append made (split_value s made vs ∷ []) in
    after_before splits vs (made ++ split_value s made vs ∷ []) k (omega (arith, h, more))
    ∙ get_or-append made (split_value s made vs ∷ []) false k h

pub grows_more : (splits : List Split) (s : Split) → Grows splits (splits ++ s ∷ [])
grows_more splits s = record {
  more = omega (arith, length-append splits (s ∷ []));
  same = λ k h vs. ap (λ ws. get_or ws k false) (after_more splits s vs [])
      ∙ get_or-append (values_after splits vs []) (split_value s (values_after splits vs []) vs
      ∷ []) false k (omega (arith, h, after_length splits vs []));
}

pub grows_none : (splits : List Split) → Grows splits splits
grows_none splits = record { more = omega arith; same = λ k h vs. refl }

pub grows_twice : (xs ys zs : List Split) → Grows xs ys → Grows ys zs → Grows xs zs
grows_twice xs ys zs g h = record {
  more = omega (arith, g.more, h.more);
  same = λ k inside vs. h.same k (omega (arith, inside, g.more)) vs ∙ g.same k inside vs;
}

-- what the last one says
added_says : (splits : List Split) (s : Split) (vs : List Bool)
    → value_of (splits ++ s ∷ []) (length splits) vs ≡ split_value s (values_after splits vs []) vs
added_says splits s vs =
    let x : Bool = split_value s (values_after splits vs []) vs in
    let size : length splits ≡ length (values_after splits vs []) =
    omega (arith, after_length splits vs []) in
    ap (λ ws. get_or ws (length splits) false) (after_more splits s vs [])
    ∙ (ap (λ n. get_or (values_after splits vs [] ++ x ∷ []) n false) size
    ∙ get_or-append_seam (values_after splits vs []) x [] false)

-- ---- a split that is there

-- what those before it say
abbrev before : List Split → ℕ → List Bool → List Bool
before splits k vs = values_after (take k splits) vs []

module _ (splits : List Split) (k : ℕ) (inside : k < length splits) (vs : List Bool) where
  before_length : length (before splits k vs) ≡ k
  before_length = omega (
    arith,
    after_length (take k splits) vs [],
    length-take-le k splits
        (omega (arith, inside)),
  )

  from_there : values_after splits vs [] ≡ values_after (drop k splits) vs (before splits k vs)
  from_there = ap (λ xs. values_after xs vs []) (sym (take-append-drop k splits))
      ∙ after_parts (take k splits) (drop k splits) vs []

  before_says : (i : ℕ) → i < k → get_or (before splits k vs) i false ≡ value_of splits i vs
  before_says i less = sym (ap (λ ws. get_or ws i false) from_there
      ∙ after_before (drop k splits) vs (before splits k vs) i (omega (arith, less, before_length)))

  -- what it says
  there_says : (d : Split) → value_of splits k vs ≡ split_value (get_or splits k d)
      (before splits k vs) vs
  there_says d =
      let x : Bool = split_value (get_or splits k d) (before splits k vs) vs in
      ap (λ ws. get_or ws k false) from_there
      ∙ (ap (λ xs. get_or (values_after xs vs (before splits k vs)) k false)
      (drop-cons splits k d inside)
      ∙ (after_before (drop (suc k) splits) vs (before splits k vs ++ x ∷ []) k
      (omega (arith, before_length, length-append (before splits k vs) (x ∷ [])))
      ∙ (ap (λ n. get_or (before splits k vs ++ x ∷ []) n false) (sym before_length)
      ∙ get_or-append_seam (before splits k vs) x [] false)))

-- ---- tables

pub table_there : (splits : List Split) (k t n : ℕ) (d : Split) → k < length splits
    → get_or splits k d ≡ Table t → IsMadeAt n splits k (λ vs. table_value t (last_columns vs))
table_there splits k t n d inside is = record {
  within = inside;
  value = λ vs size. there_says splits k inside vs d
      ∙ ap (λ s. split_value s (before splits k vs) vs) is;
}

pub table_added : (splits : List Split) (t n : ℕ)
    → IsMadeAt n (splits ++ Table t ∷ []) (length splits) (λ vs. table_value t (last_columns vs))
table_added splits t n = record {
  within = omega (arith, length-append splits (Table t ∷ []));
  value = λ vs size. added_says splits (Table t) vs;
}

-- ---- choices

pub choice_there : (splits : List Split) (k : ℕ) (c : ChoiceOf) (d : Split) → k < length splits
    → c.high < k → c.low < k → get_or splits k d ≡ Choice c → IsChosenAt splits splits k c
choice_there splits k c d inside high low is = record {
  within = inside;
  value = λ vs.
      there_says splits k inside vs d ∙ (ap (λ s. split_value s (before splits k vs) vs) is
      ∙ (ap (λ x. cond (get_or vs c.column false) x (get_or (before splits k vs) c.low false))
      (before_says splits k inside vs c.high high)
      ∙ ap (λ x. cond (get_or vs c.column false) (value_of splits c.high vs) x)
      (before_says splits k inside vs c.low low)));
}

pub choice_added : (splits : List Split) (c : ChoiceOf)
    → IsChosenAt splits (splits ++ Choice c ∷ []) (length splits) c
choice_added splits c = record {
  within = omega (arith, length-append splits (Choice c ∷ []));
  value = λ vs. added_says splits (Choice c) vs;
}

pub choice_same : (splits : List Split) (c : ChoiceOf) → c.high < length splits → c.high ≡ c.low
    → IsChosenAt splits splits c.high c
choice_same splits c inside same = record {
  within = inside;
  value = λ vs. by (get_or vs c.column false) (value_of splits c.high vs) (value_of splits c.low vs)
      (ap (λ k. value_of splits k vs) same);
}
  where
    by : (b x y : Bool) → x ≡ y → x ≡ cond b x y
    by true x y e = refl
    by false x y e = e

pub made_as : (n : ℕ) (splits : List Split) (k : ℕ) (f g : List Bool → Bool)
    → ((vs : List Bool) → length vs ≡ n → f vs ≡ g vs) → IsMadeAt n splits k f
    → IsMadeAt n splits k g
made_as n splits k f g same m = record {
  within = m.within;
  value = λ vs size. m.value vs size
      ∙ same vs size;
}

-- ---- rows

agrees-true : (on : Bool) → agrees on true ≡ on
agrees-true true = refl
agrees-true false = refl

agrees-false : (on : Bool) → agrees on false ≡ not on
agrees-false true = refl
agrees-false false = refl

last_few : (vs : List Bool) → length (last_columns vs) ≤ 6
last_few vs = omega (arith, length-drop (length vs - 6) vs)

-- a table that has a value everywhere
pub everywhere_said : (n t : ℕ) (b : Bool) (f : List Bool → Bool)
    → ((vs : List Bool) → length vs ≤ 6 → table_value t vs ≡ b) →
    ((vs : List Bool) → f vs ≡ b) → (vs : List Bool) → length vs ≡ n
    → table_value t (last_columns vs) ≡ f vs
everywhere_said n t b f says same vs size = says (last_columns vs) (last_few vs) ∙ sym (same vs)

pub no_rows_say : (on : Bool) (rows : List (Bor (List ℕ))) (vs : List Bool) → (length rows == 0)
    ≡ true → agrees on (some_match (map (λ r. r.now) rows) vs) ≡ not on
no_rows_say on [] vs none = agrees-false on
no_rows_say on (row ∷ rows) vs none = let e : length (row ∷ rows) ≡ 0 = eqb-true _ _ none in
    absurd (omega arith)

pub free_rows_say : (on : Bool) (rows : List (List ℕ)) (vs : List Bool) → has_free_row rows ≡ true
    → agrees on (some_match rows vs) ≡ on
free_rows_say on rows vs free = ap (agrees on) (free_row rows vs free) ∙ agrees-true on

-- the columns from one on, where they are the last six
last_from : (n column : ℕ) (vs : List Bool) → n - column ≡ 6 → length vs ≡ n → column + 6 ≤ n
    → last_columns vs ≡ drop column vs
last_from n column vs six size few = ap (λ k. drop k vs) (let e : length vs - 6 ≡ column =
    omega (arith, six, size, few) in e)

pub table_last : (n column t : ℕ) (f : List Bool → Bool) → n - column ≡ 6 → column + 6 ≤ n
    → Tabulates t 6 f → (vs : List Bool) → length vs ≡ n → table_value t (last_columns vs)
    ≡ f (drop column vs)
table_last n column t f six few tabulates vs size =
    ap (table_value t) (last_from n column vs six size few)
    ∙ tabulates.value (drop column vs) (omega (arith, length-drop column vs, six, size))

pub on_table : (t : ℕ) (on : Bool) (rows : List (List ℕ)) → Tabulates t 6 (some_match rows)
    → on ≡ true → Tabulates t 6 (λ vs. agrees on (some_match rows vs))
on_table t on rows tabulates is = record {
  value = λ vs size. on_said t 6 on rows vs size tabulates
      is;
}

pub off_table : (t : ℕ) (on : Bool) (rows : List (List ℕ)) → t < 2 ^ 64
    → Tabulates t 6 (some_match rows) → on ≡ false → Tabulates (18446744073709551615 - t) 6
    (λ vs. agrees on (some_match rows vs))
off_table t on rows fits tabulates is = record {
  value = λ vs size. off_said t 6 on rows vs size
      (omega arith) fits tabulates is;
}

-- what was made, by another name
pub made_ok : {E : Type 0} (n : ℕ) (splits : List Split) (result : Result ℕ E) (f g : List Bool
    → Bool) →
    ((vs : List Bool) → length vs ≡ n → f vs ≡ g vs) → IfOk result (λ k. IsMadeAt n splits k f)
    → IfOk result (λ k. IsMadeAt n splits k g)
made_ok n splits (Ok k) f g same m = made_as n splits k f g same m
made_ok n splits (Err stop) f g same m = tt

-- the next column
next : (column : ℕ) (vs : List Bool) → column < length vs → drop column vs ≡ get_or vs column false
    ∷ drop (column + 1) vs
next column vs inside = drop-cons vs column false inside
    ∙ ap (λ k. get_or vs column false ∷ drop k vs) (sym (add-one column))

pub expanded : (n column : ℕ) (on : Bool) (rows high low : List (List ℕ)) → column < n
    → high ≡ cofactor true rows → low ≡ cofactor false rows
    → (vs : List Bool) → length vs ≡ n →
    cond (get_or vs column false) (agrees on (some_match high (drop (column + 1) vs)))
    (agrees on (some_match low (drop (column + 1) vs)))
    ≡ agrees on (some_match rows (drop column vs))
expanded n column on rows high low inside h l vs size =
    rw (h, l, next column vs (omega (arith, inside, size)))
    (expansion on rows (get_or vs column false) (drop (column + 1) vs))

pub unconstrained : (n column : ℕ) (on : Bool) (rows rest : List (List ℕ)) → column < n
    → constrains_first rows ≡ false → rest ≡ cofactor true rows
    → (vs : List Bool) → length vs ≡ n → agrees on (some_match rest (drop (column + 1) vs))
    ≡ agrees on (some_match rows (drop column vs))
unconstrained n column on rows rest inside none r vs size =
    one (get_or vs column false) (agrees on (some_match rest (drop (column + 1) vs)))
    ∙ expanded n column on rows rest rest inside r (r ∙ cofactors_alike rows none) vs size
  where
    one : (b f : Bool) → f ≡ cond b f f
    one true f = refl
    one false f = refl

-- a choice between two cofactors
pub chosen_made : (n column h l k : ℕ) (s1 s2 s3 : List Split) (f g all : List Bool → Bool)
    → Grows s1 s2 → IsMadeAt n s1 h f → IsMadeAt n s2 l g
    → IsChosenAt s2 s3 k (record { column = column; high = h; low = l })
    → ((vs : List Bool) → length vs ≡ n → cond (get_or vs column false) (f vs) (g vs) ≡ all vs)
    → IsMadeAt n s3 k all
chosen_made n column h l k s1 s2 s3 f g all grows high low chosen agree = record {
  within = chosen.within;
  value = λ vs size.
      chosen.value vs ∙ (ap (λ x. cond (get_or vs column false) x (value_of s2 l vs))
      (grows.same h high.within vs ∙ high.value vs size)
      ∙ (ap (λ x. cond (get_or vs column false) (f vs) x) (low.value vs size) ∙ agree vs size));
}

-- ---- references

pub tally_at : {X : Type 0} (entry : X → Entry) (rs : List X) (k : ℕ) (d : X) (e : Entry)
    → k < length rs → weight (entry (get_or rs k d)) e ≤ tally entry rs e
tally_at entry [] k d e h = absurd (omega arith)
tally_at entry (r ∷ rs) zero d e h = omega (arith, sum_by-cons (λ r. weight (entry r) e) r rs)
tally_at entry (r ∷ rs) (suc k) d e h = omega (
  arith,
  sum_by-cons (λ r. weight (entry r) e) r rs,
  tally_at entry rs k d e (omega (arith, h)),
)

-- one of them is held
pub owned_at : {X : Type 0} (entry : X → Entry) (d : Holding) (rs : List X) (k : ℕ) (x : X)
    → k < length rs → x ≡ get_or rs k x → AreOwned entry d rs → IsHeld d (entry x)
owned_at entry d rs k x h is owned =
    let one : weight (entry x) (entry x) ≤ tally entry rs (entry x) =
    subst (λ r. weight (entry r) (entry x) ≤ tally entry rs (entry x)) (sym is)
    (tally_at entry rs k x (entry x) h) in
    omega (arith, counts_itself d (entry x), owned.held (entry x), one)

tally_end : {X : Type 0} (entry : X → Entry) (all front : List X) (r : X) (e : Entry)
    → all ≡ front ++ r ∷ [] → tally entry all e ≡ tally entry front e + weight (entry r) e
tally_end entry all front r e is = ap (λ rs. tally entry rs e) is
    ∙ (sum_by-append (λ r. weight (entry r) e) front (r ∷ [])
    ∙ omega (arith, sum_by-cons (λ r. weight (entry r) e) r []))

pub last_held : {X : Type 0} (entry : X → Entry) (d : Holding) (all front : List X) (r : X)
    → all ≡ front ++ r ∷ [] → AreOwned entry d all → IsHeld d (entry r)
last_held entry d all front r is owned = omega (
  arith,
  counts_itself d (entry r),
  owned.held (entry r),
  tally_end entry all front r (entry r) is,
)

pub rest_owned : {X : Type 0} (entry : X → Entry) (d0 d1 : Holding) (all front : List X) (r : X)
    → all ≡ front ++ r ∷ [] → AreOwned entry d0 all → Loses d0 d1 (entry r)
    → AreOwned entry d1 front
rest_owned entry d0 d1 all front r is owned l =
    record { held = λ e. omega (arith, owned.held e, l.held e, tally_end entry all front r e is) }

-- the references that are left, where those behind them were given back
pub record Leaves {X : Type 0} (entry : X → Entry) (old new : Holding) (all left : List X) : Type 0
  where
    pub variables : new.variables ≡ old.variables
    pub held : (e : Entry) → copies new e + tally entry all e ≡ copies old e + tally entry left e

pub leaves_more : {X : Type 0} (entry : X → Entry) (d0 d1 d2 : Holding) (all left front : List X)
    (r : X) → left ≡ front ++ r ∷ [] →
    Leaves entry d0 d1 all left → Loses d1 d2 (entry r) → Leaves entry d0 d2 all front
leaves_more entry d0 d1 d2 all left front r is m l = record {
  variables = l.variables ∙ m.variables;
  held = λ e. omega (arith, m.held e, l.held e, tally_end entry left front r e is);
}

-- one reference more that a call made
pub gathers_made : {X : Type 0} (entry : X → Entry) (d0 d1 d2 d3 : Holding) (old new : List X)
    (r : X) (f : (ℕ → Bool) → Bool) →
    new ≡ old ++ r ∷ [] → Gathers entry d0 d1 old → Makes entry d1 d2 (Ok r) f → Keeps d2 d3
    → Gathers entry d0 d3 new
gathers_made entry d0 d1 d2 d3 old new r f is g m k = record {
  variables = k.variables ∙ (m.variables ∙ g.variables);
  held = λ e. omega (arith, g.held e, m.held e, k.held e, tally_end entry new old r e is);
}

-- what was gathered is held
pub gathers_owned : {X : Type 0} (entry : X → Entry) (d0 d1 : Holding) (rs : List X)
    → Gathers entry d0 d1 rs → AreOwned entry d1 rs
gathers_owned entry d0 d1 rs m = record { held = λ e. omega (arith, m.held e) }

-- one split more says what its reference does
pub say_more : {X : Type 0} (entry : X → Entry) (old new : List X) (r : X) (splits : List Split)
    (k : ℕ) (d : Split) (columns : List (Bor X)) (a : ℕ → Bool) → k < length splits
    → new ≡ old ++ r ∷ []
    → SaySplits entry old (take k splits) columns a →
    says (entry r) a ≡ split_value (get_or splits k d) (map (λ r. says (entry r) a) old)
    (said entry columns a) →
    SaySplits entry new (take (k + 1) splits) columns a
say_more entry old new r splits k d columns a inside is say one = record {
  values =
      ap (map (λ r. says (entry r) a)) is ∙ (map-append (λ r. says (entry r) a) old (r ∷ [])
      ∙ (ap (λ x. map (λ r. says (entry r) a) old ++ x ∷ []) one
      ∙ (ap (λ ws. ws ++ split_value (get_or splits k d) ws (said entry columns a) ∷ []) say.values
      ∙ (sym (after_more (take k splits) (get_or splits k d) (said entry columns a) [])
      ∙ ap (λ xs. values_after xs (said entry columns a) [])
      (sym (take_more splits k d inside))))));
}

-- the reference of a split
pub said_by : {X : Type 0} (entry : X → Entry) (rs : List X) (r : X) (splits : List Split) (k : ℕ)
    (columns : List (Bor X)) (a : ℕ → Bool) →
    k < length rs → r ≡ get_or rs k r → SaySplits entry rs splits columns a → says (entry r) a
    ≡ value_of splits k (said entry columns a)
said_by entry rs r splits k columns a inside is say =
    ap (λ r. says (entry r) a) is ∙ (sym (get_or-map (λ r. says (entry r) a) rs k r false inside)
    ∙ ap (λ ws. get_or ws k false) say.values)

-- the last six of the columns
pub last_part_few : {X : Type 0} (columns : List X) (s : ℕ) → s ≡ length columns - 6
    → length (take (length columns - s) (drop s columns)) ≤ 6
last_part_few columns s is = omega (
  arith,
  is,
  length-take-le (length columns - s) (drop s columns)
      (omega (arith, length-drop s columns)),
)

pub last_part_said : {X : Type 0} (entry : X → Entry) (columns : List (Bor X)) (s : ℕ) (a : ℕ
    → Bool) → s ≡ length columns - 6 →
    said entry (take (length columns - s) (drop s columns)) a ≡ last_columns (said entry columns a)
last_part_said entry columns s a is =
    ap (λ xs. said entry xs a) (take_all (length columns - s) (drop s columns)
    (omega (arith, length-drop s columns)))
    ∙ (map_drop (λ r. says (entry r.now) a) s columns ∙ ap (λ k. drop k (said entry columns a))
    (let e : s ≡ length (said entry columns a) - 6 =
    omega (arith, is, length_said entry columns a) in e))

-- what is held beside what was gathered
pub gathers_held : {X : Type 0} (entry : X → Entry) (d0 d1 : Holding) (rs : List X)
    (columns : List (Bor X)) → Gathers entry d0 d1 rs → AreHeld entry d0 columns
    → AreHeld entry d1 columns
gathers_held entry d0 d1 rs columns m h =
    held_more entry d0 d1 columns (λ e. omega (arith, m.held e)) h

-- one more of two lists that are alike
pub alike_more : {X : Type 0} (xs ys : List X) (k : ℕ) (x y : X) → k < length xs → k < length ys
    → take k xs ≡ take k ys → get_or xs k x ≡ get_or ys k y → take (k + 1) xs ≡ take (k + 1) ys
alike_more xs ys k x y inside within same one = take_more xs k x inside
    ∙ (ap (λ l. l ++ get_or xs k x ∷ []) same ∙ (ap (λ z. take k ys ++ z ∷ []) one
    ∙ sym (take_more ys k y within)))

pub alike_all : {X : Type 0} (xs ys : List X) (k : ℕ) → length xs ≤ k → length ys ≤ k
    → take k xs ≡ take k ys → xs ≡ ys
alike_all xs ys k few less same = sym (take_all k xs few) ∙ (same ∙ take_all k ys less)

-- a choice between what two calls made
pub chosen_ok : {E : Type 0} (n column h l : ℕ) (result : Result ℕ E) (s1 s2 s3 : List Split)
    (f g all : List Bool → Bool) → Grows s1 s2 → IsMadeAt n s1 h f → IsMadeAt n s2 l g
    → IfOk result (λ k. IsChosenAt s2 s3 k (record { column = column; high = h; low = l }))
    → ((vs : List Bool) → length vs ≡ n → cond (get_or vs column false) (f vs) (g vs) ≡ all vs)
    → IfOk result (λ k. IsMadeAt n s3 k all)
chosen_ok n column h l (Ok k) s1 s2 s3 f g all grows high low chosen agree =
    chosen_made n column h l k s1 s2 s3 f g all grows high low chosen agree
chosen_ok n column h l (Err stop) s1 s2 s3 f g all grows high low chosen agree = tt

-- a row of a list that another one has too
pub row_at : {A : Type 0} (f : A → List ℕ) (xs : List A) (all ys : List (List ℕ)) (k : ℕ) (x : A)
    (row : List ℕ) → all ≡ map f xs →
    k < length xs → x ≡ get_or xs k x → f x ≡ row → row ≡ get_or ys k []
    → get_or all k [] ≡ get_or ys k []
row_at f xs all ys k x row is inside there same other =
    ap (λ l. get_or l k []) is ∙ (get_or-map f xs k x [] inside
    ∙ (ap f (sym there) ∙ (same ∙ other)))
