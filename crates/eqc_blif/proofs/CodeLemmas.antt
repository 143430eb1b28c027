-- The condition of a statement's code holds, and which codes no statement has.
use Rattle.std.proofs.Common.{◌≡◌, ℕ, Bool, true, false, cond, eqb, ◌||◌, ◌&&◌, List, [], ◌∷◌}
use Rattle.std.proofs.Common.{Option, Some, refl, sym, ◌∙◌}
use Rattle.std.specs.List.{list_any}
use Rattle.std.proofs.lemmas.Bool.{eq-eqb, true≢false}
use Rattle.std.proofs.Math.Bool.{or-true, or-false}
use Rattle.eqc_blif.specs.Reading.{After, first_code, statement_conditions, statement_code}
use Rattle.eqc_blif.specs.declared.reader.kind.Kind.{Kind}

-- one condition holds, or it is passed over
one_holds : (n k : ℕ) (b : Bool) (rest : Option ℕ) (found : Bool) → cond b (Some n) rest ≡ Some k
    → (rest ≡ Some k → found ≡ true) → ((eqb n k && b) || found) ≡ true
one_holds n k true rest found is later =
    let same : n ≡ k = cc in
    rw (eq-eqb n k same) refl
one_holds n k false rest found is later = rw (later is) (or-true (eqb n k && false))

-- the condition of the first code holds
holds : (k : ℕ) (conditions : List (ℕ × Bool)) → first_code conditions ≡ Some k
    → list_any (λ c. eqb c.0 k && c.1) conditions ≡ true
holds k [] is = cc
holds k (c ∷ more) is = one_holds c.0 k c.1 (first_code more) (list_any (λ d. eqb d.0 k && d.1)
    more) is (holds k more)

-- the condition of a statement's code holds
pub condition_holds : (st : After) (kind : Kind) (ws : List (List ℕ)) (row : List ℕ) (k : ℕ)
    → statement_code st kind ws row ≡ Some k
    → list_any (λ c. eqb c.0 k && c.1) (statement_conditions st kind ws row) ≡ true
condition_holds st kind ws row k is = holds k (statement_conditions st kind ws row) is

-- a condition beside none
pub alone : (b : Bool) → (b || false) ≡ true → b ≡ true
alone b is = sym (or-false b) ∙ is

-- the code of a statement is from 3 on, and none is 13
pub not_one : (st : After) (kind : Kind) (ws : List (List ℕ)) (row : List ℕ)
    → statement_code st kind ws row ≡ Some 1 → ⊥
not_one st kind ws row is = true≢false (sym (condition_holds st kind ws row 1 is))

pub not_two : (st : After) (kind : Kind) (ws : List (List ℕ)) (row : List ℕ)
    → statement_code st kind ws row ≡ Some 2 → ⊥
not_two st kind ws row is = true≢false (sym (condition_holds st kind ws row 2 is))

pub not_thirteen : (st : After) (kind : Kind) (ws : List (List ℕ)) (row : List ℕ)
    → statement_code st kind ws row ≡ Some 13 → ⊥
not_thirteen st kind ws row is = true≢false (sym (condition_holds st kind ws row 13 is))
