-- How the first list of n values that passes a test begins.
use Rattle.std.proofs.Common.{◌≡◌, ℕ, suc, ◌+◌, ◌<◌, Bool, true, false, cond, List, [], ◌∷◌, ◌++◌}
use Rattle.std.proofs.Common.{length, take, drop, get_or, find, Option, Some, None, option_map, sym}
use Rattle.std.proofs.Common.{ap, refl, ◌∙◌, arith, append_assoc, append-nil, true≢false, subst}
use Rattle.std.specs.Option.{option_or}
use Rattle.std.proofs.lemmas.List.{length-append, length-take-le, take-append-drop, take_more}
use Rattle.std.proofs.lemmas.List.{take_all}
use Rattle.std.proofs.lemmas.Iterator.Adapters.{option_map_id}
use Rattle.eqc_tree.specs.Assigned.{assignments}
use Rattle.eqc_tree.proofs.FindLemmas.{find_first, find_same, find_none, find_empty, none_found}
use Rattle.eqc_witness.specs.Completing.{Completes}

-- the first list that passes begins with these values
pub record IsBegun (n : ℕ) (test : List Bool → Bool) (bits : List Bool) : Type 0 where
  pub first : (m : ℕ) → length bits + m ≡ n → find test (assignments n) ≡ option_map (λ t. bits
      ++ t) (find (λ t. test (bits ++ t)) (assignments m))

-- with none
pub begun_none : (n : ℕ) (test : List Bool → Bool) → IsBegun n test []
begun_none n test = record {
  first = λ m size.
      let long : m ≡ n = omega arith in
      rw long (sym (option_map_id (find test (assignments n))));
}

-- values before others, put before them in two steps
in_two_steps : (bits : List Bool) (b : Bool) (o : Option (List Bool))
    → option_map (λ t. bits ++ t) (option_map (λ t. b ∷ t) o) ≡ option_map (λ t. (bits ++ b ∷ [])
    ++ t) o
in_two_steps bits b None = refl
in_two_steps bits b (Some t) = ap Some (sym (append_assoc bits (b ∷ []) t))

-- the lists that go on with one value more
one_more : (test : List Bool → Bool) (bits : List Bool) (b : Bool) (n : ℕ)
    → find (λ t. test (bits ++ b ∷ t)) (assignments n) ≡ find (λ t. test ((bits ++ b ∷ []) ++ t))
    (assignments n)
one_more test bits b n =
    find_same (λ t. test (bits ++ b ∷ t)) (λ t. test ((bits ++ b ∷ []) ++ t))
    (λ t. ap test (sym (append_assoc bits (b ∷ []) t))) (assignments n)

first_there : (o u : Option (List Bool)) → (o ≡ None → ⊥)
    → option_or (option_map (λ t. false ∷ t) o) u ≡ option_map (λ t. false ∷ t) o
first_there None u there = absurd (there refl)
first_there (Some t) u there = refl

-- with false more, where a list passes that begins so
pub begun_false : (n : ℕ) (test : List Bool → Bool) (bits rest : List Bool) → IsBegun n test bits
    → length (bits ++ false ∷ rest) ≡ n →
    test (bits ++ false ∷ rest) ≡ true → IsBegun n test (bits ++ false ∷ [])
begun_false n test bits rest begun long passes = record {
  first = λ m size.
      let more : length bits + suc m ≡ n = omega (arith, length-append bits (false ∷ [])) in
      let same : length rest ≡ m = omega (arith, length-append bits (false ∷ rest), more, long) in
      let there : find (λ t. test (bits ++ false ∷ t)) (assignments m) ≡ None → ⊥ =
      λ none. true≢false (sym passes ∙ none_found m (λ t. test (bits ++ false ∷ t)) none rest same)
      in
      begun.first (suc m) more
      ∙ (ap (option_map (λ t. bits ++ t))
      (find_first (λ t. test (bits ++ t)) m
      ∙ first_there (find (λ t. test (bits ++ false ∷ t)) (assignments m)) (option_map (λ t. true
      ∷ t) (find (λ t. test (bits ++ true ∷ t)) (assignments m))) there)
      ∙ (in_two_steps bits false (find (λ t. test (bits ++ false ∷ t)) (assignments m))
      ∙ ap (option_map (λ t. (bits ++ false ∷ []) ++ t)) (one_more test bits false m)));
}

-- with true more, where none passes that begins with false more
pub begun_true : (n : ℕ) (test : List Bool → Bool) (bits : List Bool) → IsBegun n test bits →
    ((rest : List Bool) → length ((bits ++ false ∷ []) ++ rest) ≡ n
    → test ((bits ++ false ∷ []) ++ rest) ≡ false) →
    IsBegun n test (bits ++ true ∷ [])
begun_true n test bits begun fails = record {
  first = λ m size.
      let more : length bits + suc m ≡ n = omega (arith, length-append bits (true ∷ [])) in
      let none : find (λ t. test (bits ++ false ∷ t)) (assignments m) ≡ None =
      one_more test bits false m
      ∙ find_none m (λ t. test ((bits ++ false ∷ []) ++ t))
      (λ t same. fails t (omega (
        arith,
        length-append (bits ++ false ∷ []) t,
        length-append bits (false ∷ []),
        more,
        same,
      ))) in
      begun.first (suc m) more
      ∙ (ap (option_map (λ t. bits ++ t))
      (find_first (λ t. test (bits ++ t)) m
      ∙ ap (λ o. option_or (option_map (λ t. false ∷ t) o) (option_map (λ t. true ∷ t)
      (find (λ t. test (bits ++ true ∷ t)) (assignments m)))) none)
      ∙ (in_two_steps bits true (find (λ t. test (bits ++ true ∷ t)) (assignments m))
      ∙ ap (option_map (λ t. (bits ++ true ∷ []) ++ t)) (one_more test bits true m)));
}

-- all of them
pub begun_all : (n : ℕ) (test : List Bool → Bool) (bits : List Bool) → IsBegun n test bits
    → length bits ≡ n → test bits ≡ true → find test (assignments n) ≡ Some bits
begun_all n test bits begun long passes =
    begun.first 0 (omega arith)
    ∙ (ap (option_map (λ t. bits ++ t))
    (find_empty (λ t. test (bits ++ t))
    ∙ ap (λ b. cond b (Some []) None) (ap test (append-nil bits) ∙ passes))
    ∙ ap Some (append-nil bits))

-- ---- the values of a list that passes, one after the other

-- a value that is false
pub next_false : (n k : ℕ) (test : List Bool → Bool) (values : List Bool) → k < length values
    → length values ≡ n → test values ≡ true →
    get_or values k false ≡ false → IsBegun n test (take k values)
    → IsBegun n test (take (k + 1) values)
next_false n k test values inside long passes is begun =
    let more : take (k + 1) values ≡ take k values ++ false ∷ [] = take_more values k false inside
    ∙ ap (λ b. take k values ++ b ∷ []) is in
    let whole : take k values ++ false ∷ drop (k + 1) values ≡ values =
    sym (append_assoc (take k values) (false ∷ []) (drop (k + 1) values))
    ∙ (ap (λ t. t ++ drop (k + 1) values) (sym more) ∙ take-append-drop (k + 1) values) in
    subst (IsBegun n test) (sym more) (begun_false n test (take k values) (drop (k + 1) values)
    begun (ap length whole ∙ long) (ap test whole ∙ passes))

-- a value that is true, where none passes that is false there and has those before it
pub next_true : (n k : ℕ) (test : List Bool → Bool) (values : List Bool) → k < length values
    → get_or values k false ≡ true →
    ((rest : List Bool) → length ((take k values ++ false ∷ []) ++ rest) ≡ n
    → test ((take k values ++ false ∷ []) ++ rest) ≡ false) →
    IsBegun n test (take k values) → IsBegun n test (take (k + 1) values)
next_true n k test values inside is fails begun =
    let more : take (k + 1) values ≡ take k values ++ true ∷ [] = take_more values k false inside
    ∙ ap (λ b. take k values ++ b ∷ []) is in
    subst (IsBegun n test) (sym more) (begun_true n test (take k values) begun fails)

-- another list that passes, with the values before and false there
pub next_lower : (n k : ℕ) (test : List Bool → Bool) (values first lower : List Bool)
    → k < length values → first ≡ take k values ++ false ∷ [] →
    Completes n test first lower → IsBegun n test (take k values)
    → IsBegun n test (take (k + 1) lower)
next_lower n k test values first lower inside is completes begun =
    let size : length first ≡ k + 1 = ap length is
    ∙ omega (
      arith,
      length-append (take k values) (false ∷ []),
      length-take-le k values
          (omega arith),
    ) in
    let more : take (k + 1) lower ≡ take k values ++ false ∷ [] = ap (λ m. take m lower) (sym size)
    ∙ (completes.begins ∙ is) in
    let whole : take k values ++ false ∷ drop (k + 1) lower ≡ lower =
    sym (append_assoc (take k values) (false ∷ []) (drop (k + 1) lower))
    ∙ (ap (λ t. t ++ drop (k + 1) lower) (sym more) ∙ take-append-drop (k + 1) lower) in
    subst (IsBegun n test) (sym more) (begun_false n test (take k values) (drop (k + 1) lower) begun
    (ap length whole ∙ completes.long) (ap test whole ∙ completes.passes))

-- after the last value the list is the first that passes
pub begun_whole : (n k : ℕ) (test : List Bool → Bool) (values : List Bool) → length values ≡ n
    → n ≡ k → test values ≡ true → IsBegun n test (take k values) → find test (assignments n)
    ≡ Some values
begun_whole n k test values long all passes begun =
    let whole : take k values ≡ values = take_all k values (omega arith) in
    begun_all n test values (subst (IsBegun n test) whole begun) long passes

-- where no list passes none is found
pub none_passes : (n : ℕ) (test : List Bool → Bool) → ((rest : List Bool) → length rest ≡ n
    → test rest ≡ false) → find test (assignments n) ≡ None
none_passes n test fails = find_none n test fails
