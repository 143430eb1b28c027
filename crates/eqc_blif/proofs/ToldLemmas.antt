-- What the code of a statement says of it.
use Rattle.std.proofs.Common.{◌≡◌, ◌≢◌, ℕ, Bool, true, false, not, cond, List, length, Option, Some}
use Rattle.std.proofs.Common.{None, refl, subst, arith}
use Rattle.std.specs.Prelude.{is_some, map}
use Rattle.std.specs.List.{list_all}
use Rattle.std.proofs.lemmas.Bool.{not-true, not-false, and_parts}
use Rattle.eqc_blif.specs.Words.{first_of, behind_first, is_pair}
use Rattle.eqc_netlist.specs.Names.{is_named}
use Rattle.eqc_blif.specs.Reading.{
  After,
  models,
  current,
  is_in_cover,
  stands_in_model,
  last_cover,
  has_row_shape,
  differs_from_first,
  is_unknown,
  is_outside,
  is_row_outside,
  is_misshapen,
  is_mixed,
  has_bad_pair,
  lacks_words,
  is_model_again,
  is_name_again,
  statement_code,
}
use Rattle.eqc_blif.specs.declared.reader.kind.Kind.{Kind}
use Rattle.eqc_blif.specs.declared.reader.kind.Kind.TheVariants.{Model, Inputs, Outputs, Names}
use Rattle.eqc_blif.specs.declared.reader.kind.Kind.TheVariants.{Subckt, End, Latch, Skipped}
use Rattle.eqc_blif.specs.declared.reader.kind.Kind.TheVariants.{Unknown, Row}
use Rattle.eqc_blif.proofs.CodeLemmas.{condition_holds, alone}

-- only an unknown command is one
pub at_unknown : (kind : Kind) → is_unknown kind ≡ true → kind ≡ Unknown
at_unknown Model is = cc
at_unknown Inputs is = cc
at_unknown Outputs is = cc
at_unknown Names is = cc
at_unknown Subckt is = cc
at_unknown End is = cc
at_unknown Latch is = cc
at_unknown Skipped is = cc
at_unknown Unknown is = refl
at_unknown Row is = cc

-- a row that is outside is a row
pub at_outside : (st : After) (kind : Kind) → is_row_outside st kind ≡ true → kind ≡ Row
at_outside st Model is = cc
at_outside st Inputs is = cc
at_outside st Outputs is = cc
at_outside st Names is = cc
at_outside st Subckt is = cc
at_outside st End is = cc
at_outside st Latch is = cc
at_outside st Skipped is = cc
at_outside st Unknown is = cc
at_outside st Row is = refl

-- what is misshapen is a row
pub at_misshapen : (st : After) (kind : Kind) (row : List ℕ) → is_misshapen st kind row ≡ true
    → kind ≡ Row
at_misshapen st Model row is = cc
at_misshapen st Inputs row is = cc
at_misshapen st Outputs row is = cc
at_misshapen st Names row is = cc
at_misshapen st Subckt row is = cc
at_misshapen st End row is = cc
at_misshapen st Latch row is = cc
at_misshapen st Skipped row is = cc
at_misshapen st Unknown row is = cc
at_misshapen st Row row is = refl

-- what ends otherwise is a row
pub at_mixed : (st : After) (kind : Kind) (row : List ℕ) → is_mixed st kind row ≡ true → kind ≡ Row
at_mixed st Model row is = cc
at_mixed st Inputs row is = cc
at_mixed st Outputs row is = cc
at_mixed st Names row is = cc
at_mixed st Subckt row is = cc
at_mixed st End row is = cc
at_mixed st Latch row is = cc
at_mixed st Skipped row is = cc
at_mixed st Unknown row is = cc
at_mixed st Row row is = refl

-- pairs stand in `.subckt` alone
pub at_pair : (kind : Kind) (ws : List (List ℕ)) → has_bad_pair kind ws ≡ true → kind ≡ Subckt
at_pair Model ws is = cc
at_pair Inputs ws is = cc
at_pair Outputs ws is = cc
at_pair Names ws is = cc
at_pair Subckt ws is = refl
at_pair End ws is = cc
at_pair Latch ws is = cc
at_pair Skipped ws is = cc
at_pair Unknown ws is = cc
at_pair Row ws is = cc

-- a model's name stands in `.model` alone
pub at_model : (st : After) (kind : Kind) (ws : List (List ℕ)) → is_model_again st kind ws ≡ true
    → kind ≡ Model
at_model st Model ws is = refl
at_model st Inputs ws is = cc
at_model st Outputs ws is = cc
at_model st Names ws is = cc
at_model st Subckt ws is = cc
at_model st End ws is = cc
at_model st Latch ws is = cc
at_model st Skipped ws is = cc
at_model st Unknown ws is = cc
at_model st Row ws is = cc

-- a row with a code from 7 on follows a cover
covered : (outside within : Bool) (rest : Option ℕ) (k : ℕ)
    → cond outside (Some 5) (cond (not within) (Some 6) rest) ≡ Some k → (5 ≡ k → ⊥) → (6 ≡ k → ⊥)
    → within ≡ true
covered true within rest k is five six = absurd (five cc)
covered false true rest k is five six = refl
covered false false rest k is five six = absurd (six cc)

-- 3
pub told_unknown : (st : After) (kind : Kind) (ws : List (List ℕ)) (row : List ℕ)
    → statement_code st kind ws row ≡ Some 3 → kind ≡ Unknown
told_unknown st kind ws row is =
    at_unknown kind (alone (is_unknown kind) (condition_holds st kind ws row 3 is))

-- 5
pub told_behind : (st : After) (kind : Kind) (ws : List (List ℕ)) (row : List ℕ)
    → statement_code st kind ws row ≡ Some 5 → (stands_in_model kind ≡ true)
    × (st.open_model ≡ None)
told_behind st kind ws row is =
    let parts = and_parts (stands_in_model kind) (not (is_some st.open_model))
    (alone (is_outside st kind) (condition_holds st kind ws row 5 is)) in
    (parts.0, closed st.open_model parts.1)
  where
    closed : {A : Type 0} (o : Option A) → not (is_some o) ≡ true → o ≡ None
    closed None none = refl
    closed (Some x) none = cc

-- 6
pub told_outside : (st : After) (kind : Kind) (ws : List (List ℕ)) (row : List ℕ)
    → statement_code st kind ws row ≡ Some 6 → (kind ≡ Row) × (is_in_cover st.open_model ≡ false)
told_outside st kind ws row is =
    let holds = alone (is_row_outside st kind) (condition_holds st kind ws row 6 is) in
    let at = at_outside st kind holds in
    (at, not-true (is_in_cover st.open_model) (subst (λ k. is_row_outside st k ≡ true) at holds))

-- 7
pub told_misshapen : (st : After) (kind : Kind) (ws : List (List ℕ)) (row : List ℕ)
    → statement_code st kind ws row ≡ Some 7
    → (is_in_cover st.open_model ≡ true) × (kind ≡ Row)
    × (has_row_shape (length (last_cover (current st).covers).columns) row ≡ false)
told_misshapen st kind ws row is =
    let holds = alone (is_misshapen st kind row) (condition_holds st kind ws row 7 is) in
    let at = at_misshapen st kind row holds in (
      covered _ (is_in_cover st.open_model) _ 7 (subst (λ k. statement_code st k ws row ≡ Some 7) at
          is) (λ e. omega (arith, e)) (λ e. omega (arith, e)),
      at,
      not-true (has_row_shape (length (last_cover (current st).covers).columns) row)
          (subst (λ k. is_misshapen st k row ≡ true) at holds),
    )

-- 8
pub told_mixed : (st : After) (kind : Kind) (ws : List (List ℕ)) (row : List ℕ)
    → statement_code st kind ws row ≡ Some 8
    → (is_in_cover st.open_model ≡ true) × (kind ≡ Row)
    × (differs_from_first (last_cover (current st).covers).rows row ≡ true)
told_mixed st kind ws row is =
    let holds = alone (is_mixed st kind row) (condition_holds st kind ws row 8 is) in
    let at = at_mixed st kind row holds in (
      covered _ (is_in_cover st.open_model) _ 8 (subst (λ k. statement_code st k ws row ≡ Some 8) at
          is) (λ e. omega (arith, e)) (λ e. omega (arith, e)),
      at,
      subst (λ k. is_mixed st k row ≡ true) at holds,
    )

-- 9
pub told_pair : (st : After) (kind : Kind) (ws : List (List ℕ)) (row : List ℕ)
    → statement_code st kind ws row ≡ Some 9 → (kind ≡ Subckt)
    × (list_all is_pair (behind_first ws) ≡ false)
told_pair st kind ws row is =
    let holds = alone (has_bad_pair kind ws) (condition_holds st kind ws row 9 is) in
    let at = at_pair kind ws holds in (
      at,
      not-true (list_all is_pair (behind_first ws)) (subst (λ k. has_bad_pair k ws ≡ true) at
          holds),
    )

-- 10
pub told_word : (st : After) (kind : Kind) (ws : List (List ℕ)) (row : List ℕ)
    → statement_code st kind ws row ≡ Some 10 → lacks_words kind ws ≡ true
told_word st kind ws row is = alone (lacks_words kind ws) (condition_holds st kind ws row 10 is)

-- 11
pub told_model : (st : After) (kind : Kind) (ws : List (List ℕ)) (row : List ℕ)
    → statement_code st kind ws row ≡ Some 11
    → (kind ≡ Model) × (is_named (map (λ m. m.name) (models st)) (first_of ws) ≡ true)
told_model st kind ws row is =
    let holds = alone (is_model_again st kind ws) (condition_holds st kind ws row 11 is) in
    let at = at_model st kind ws holds in
    (at, subst (λ k. is_model_again st k ws ≡ true) at holds)

-- a condition of another code does not hold
passed : (n : ℕ) (holds : Bool) (rest : Option ℕ) (code : ℕ) → cond holds (Some n) rest ≡ Some code
    → code ≢ n → (holds ≡ false) × (rest ≡ Some code)
passed n true rest code is other = absurd (other cc)
passed n false rest code is other = (refl, is)

last : (n : ℕ) (holds : Bool) (code : ℕ) → cond holds (Some n) None ≡ Some code → (holds ≡ true)
    × (code ≡ n)
last n true code is = (refl, cc)
last n false code is = cc

named_again : (st : After) (kind : Kind) (ws : List (List ℕ)) → is_outside st kind ≡ false
    → is_name_again st kind ws ≡ true → is_some st.open_model ≡ true
named_again st Inputs ws inside again = not-false (is_some st.open_model) inside
named_again st Outputs ws inside again = not-false (is_some st.open_model) inside
named_again st Model ws inside again = cc
named_again st Names ws inside again = cc
named_again st Subckt ws inside again = cc
named_again st End ws inside again = cc
named_again st Latch ws inside again = cc
named_again st Skipped ws inside again = cc
named_again st Unknown ws inside again = cc
named_again st Row ws inside again = cc

-- the codes that are looked at before 12
pub record IsNoOther (code : ℕ) : Type 0 where
  pub unknown : code ≢ 3
  pub latch : code ≢ 4
  pub behind : code ≢ 5
  pub outside : code ≢ 6
  pub shape : code ≢ 7
  pub mixed : code ≢ 8
  pub pair : code ≢ 9
  pub word : code ≢ 10
  pub model : code ≢ 11

-- 12, where it is no other code
pub told_twice : (st : After) (kind : Kind) (ws : List (List ℕ)) (row : List ℕ) (code : ℕ)
    → statement_code st kind ws row ≡ Some code → IsNoOther code
    → (is_some st.open_model ≡ true) × (is_name_again st kind ws ≡ true) × (code ≡ 12)
told_twice st kind ws row code is none =
    let from_4 = (passed 3 (is_unknown kind) _ code is none.unknown).1 in
    let from_5 = (passed 4 _ _ code from_4 none.latch).1 in
    let (inside, from_6) = passed 5 (is_outside st kind) _ code from_5 none.behind in
    let from_7 = (passed 6 _ _ code from_6 none.outside).1 in
    let from_8 = (passed 7 _ _ code from_7 none.shape).1 in
    let from_9 = (passed 8 _ _ code from_8 none.mixed).1 in
    let from_10 = (passed 9 _ _ code from_9 none.pair).1 in
    let from_11 = (passed 10 _ _ code from_10 none.word).1 in
    let from_12 = (passed 11 _ _ code from_11 none.model).1 in
    let (again, by) = last 12 (is_name_again st kind ws) code from_12 in
    (named_again st kind ws inside again, again, by)
