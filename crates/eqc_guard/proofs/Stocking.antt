-- The words and tables with which a forest begins.
use Rattle.std.proofs.Common.{◌≡◌, ◌≢◌, ◌⊎◌, ℕ, zero, suc, ◌+◌, ◌-◌, ◌*◌, ◌%◌, ◌<◌, ◌≤◌, List, []}
use Rattle.std.proofs.Common.{◌∷◌, ◌++◌, length, take, replicate, take_all, if◌then◌else◌, is_ok}
use Rattle.std.proofs.Common.{Result, Ok, Err, OnOk, map, length-append, eq-eqb, ne_eqb, refl, sym}
use Rattle.std.proofs.Common.{ap, ◌∙◌, arith, inl, inr}
use Rattle.std.specs.HashMap.{HashMap}
use Rattle.std.proofs.lemmas.List.{append_assoc, map-append}
use mathlib.Core.Option.{some}
use native.Mathlib.Decide.{ℕ_discrete}
use Rattle.eqc_core.specs.declared.sizes.Sizes.{Sizes}
use Rattle.eqc_core.specs.View.{View}
use Rattle.eqc_core.specs.Words.{Words, announced_words, stripe_of}
use Rattle.eqc_core.specs.Tables.{Homes}
use Rattle.eqc_core.specs.Lawful.{IsSized}
use Rattle.eqc_core.specs.State.{repeated, literal, literals, slots_from, stripe_entries}
use Rattle.eqc_core.specs.State.{homes_from, opening}
use Rattle.eqc_core.proofs.Literals.{literal_variable, literal_low, literal_high}
use Rattle.eqc_core.proofs.Stocks.{literals-push, slots-push, homes-push}
use Rattle.eqc_guard.specs.declared.reference.Ref.{Ref}
use Rattle.eqc_guard.specs.Known.{apart, spread, flat}
use Rattle.eqc_guard.specs.Rule.{all_words, homes_of}
use Rattle.eqc_guard.proofs.Laid.{apart_length, spread_length}

repeated_more : (x m n : ℕ) → repeated x m ++ repeated x n ≡ repeated x (m + n)
repeated_more x zero n = let e : n ≡ 0 + n = omega arith in ap (λ (k : ℕ). repeated x k) e
repeated_more x (suc m) n = let e : suc (m + n) ≡ suc m + n = omega arith in
    ap (λ (l : List ℕ). x ∷ l) (repeated_more x m n) ∙ ap (λ (k : ℕ). repeated x k) e

-- zeros that are spread are zeros
spread_zeros : (n : ℕ) → spread (repeated 0 n) ≡ repeated 0 (2 * n)
spread_zeros zero = refl
spread_zeros (suc n) = let e : suc (suc (2 * n)) ≡ 2 * suc n = omega arith in
    ap (λ (l : List ℕ). 0 ∷ 0 ∷ l) (spread_zeros n) ∙ ap (λ (k : ℕ). repeated 0 k) e

replicated : (x n : ℕ) → replicate n x ≡ repeated x n
replicated x zero = refl
replicated x (suc n) = ap (λ (l : List ℕ). x ∷ l) (replicated x n)

-- a word so many times behind a list that is filled up with it
pub filled_up : {E : Type 0} (r : Result (Unit {0}) E) (l m : List ℕ) (x n had k : ℕ)
    → had ≡ length l → k ≡ had + n →
    m ≡ (if is_ok r then take k l ++ replicate (k - had) x else l) → OnOk r (m ≡ l ++ repeated x n)
filled_up (Ok _) l m x n had k long more is =
    let rest : k - had ≡ n = omega arith in
    is ∙ ((λ i. take_all k l (omega arith) i ++ replicate (rest i) x)
    ∙ ap (λ (r : List ℕ). l ++ r) (replicated x n))
filled_up (Err _) l m x n had k long more is = tt

pub one_literal : (l : List ℕ) (n : ℕ) → (l ++ literals 0 n) ++ literal n ∷ [] ≡ l
    ++ literals 0 (n + 1)
one_literal l n = append_assoc l (literals 0 n) (literal n ∷ [])
    ∙ ap (λ (r : List ℕ). l ++ r) (sym (literals-push n))

-- nine lists in a row
nine : (a z t r l c b : List ℕ) → ((((((((a ++ z) ++ t) ++ r) ++ z) ++ l) ++ r) ++ c) ++ b) ≡ a
    ++ ((z ++ (t ++ r)) ++ ((z ++ (l ++ r)) ++ (c ++ b)))
nine a z t r l c b =
    append_assoc (((((((a ++ z) ++ t) ++ r) ++ z) ++ l) ++ r)) c b
    ∙ (append_assoc ((((((a ++ z) ++ t) ++ r) ++ z) ++ l)) r (c ++ b)
    ∙ (append_assoc (((((a ++ z) ++ t) ++ r) ++ z)) l (r ++ (c ++ b))
    ∙ (append_assoc ((((a ++ z) ++ t) ++ r)) z (l ++ (r ++ (c ++ b)))
    ∙ (append_assoc (((a ++ z) ++ t)) r (z ++ (l ++ (r ++ (c ++ b))))
    ∙ (append_assoc ((a ++ z)) t (r ++ (z ++ (l ++ (r ++ (c ++ b)))))
    ∙ (append_assoc a z (t ++ (r ++ (z ++ (l ++ (r ++ (c ++ b))))))
    ∙ ap (λ (k : List ℕ). a ++ k) (sym (three z t r ((z ++ (l ++ r)) ++ (c ++ b))
    ∙ ap (λ (k : List ℕ). z ++ (t ++ (r ++ k))) (three z l r (c ++ b))))))))))
  where
    three : (x y w k : List ℕ) → (x ++ (y ++ w)) ++ k ≡ x ++ (y ++ (w ++ k))
    three x y w k = append_assoc x (y ++ w) k ∙ ap (λ (m : List ℕ). x ++ m) (append_assoc y w k)

-- the words of the opening state, kind by kind
pub words_laid : (z : Sizes) (n rest cells : ℕ) → rest ≡ z.names - (n + 2) → cells ≡ z.cells
    → (((((((([] ++ repeated 0 (2 * announced_words z)) ++ repeated 0 2) ++ repeated 2 n)
    ++ repeated 0 rest) ++ repeated 0 2) ++ literals 0 n) ++ repeated 0 rest) ++ repeated 0 cells)
    ++ repeated
    0 (16 * z.workers + 128)
    ≡ flat (opening z n).words
words_laid z n rest cells er ec =
    nine (repeated 0 (2 * announced_words z)) (repeated 0 2) (repeated 2 n) (repeated 0 rest)
    (literals 0 n) (repeated 0 cells) (repeated 0 (16 * z.workers + 128))
    ∙ (λ i. sym (spread_zeros (announced_words z)) i
    ++ ((0 ∷ 0 ∷ repeated 2 n ++ repeated 0 (er i)) ++ ((0 ∷ 0 ∷ literals 0 n ++ repeated 0 (er i))
    ++ (repeated 0 (ec i) ++ sym (repeated_more 0 (16 * z.workers) 128) i))))

-- as many words as a lawful state has
pub flat_length : (z : Sizes) (w : Words) (hs : Homes) (vs : List View) → IsSized z w hs vs
    → length (flat w) ≡ all_words z
flat_length z w hs vs sized =
    omega (
      arith,
      length-append (spread w.announced) (w.counts
          ++ (w.nodes ++ (w.cells ++ (w.boxes ++ apart w.locks)))),
      length-append w.counts (w.nodes ++ (w.cells ++ (w.boxes ++ apart w.locks))),
      length-append w.nodes (w.cells ++ (w.boxes ++ apart w.locks)),
      length-append w.cells (w.boxes ++ apart w.locks),
      length-append w.boxes (apart w.locks),
      apart_length w.locks,
      spread_length w.announced,
      sized.announced,
      sized.counts,
      sized.nodes,
      sized.cells,
      sized.boxes,
      sized.locks,
    )

-- the stripe of a literal
literal_stripe : (i : ℕ) → stripe_of (literal i) ≡ (i + 1) % 16
unfolding stripe_of
literal_stripe i = rw (literal_variable i, literal_low i, literal_high i) refl

-- a stripe has one of the first 16 literals at most
pub no_literal : (s i b k : ℕ) → (i + 1) % 16 ≡ s → i < 16 → b + k ≤ 16 → (i < b) ⊎ (b + k ≤ i)
    → stripe_entries s b k ≡ []
no_literal s i b zero is lt few out = refl
no_literal s i b (suc k) is lt few out =
    rw (ne_eqb (stripe_of (literal b)) s (λ e. other out (sym (literal_stripe b) ∙ e)))
    (no_literal s i (suc b) k is lt (omega arith) (later out))
  where
    other : (i < b) ⊎ (b + suc k ≤ i) → (b + 1) % 16 ≡ s → ⊥
    other (inl less) e = omega arith
    other (inr more) e = omega arith

    later : (i < b) ⊎ (b + suc k ≤ i) → (i < suc b) ⊎ (suc b + k ≤ i)
    later (inl less) = inl (omega arith)
    later (inr more) = inr (omega arith)

pub one_stripe_literal : (s i b k : ℕ) → (i + 1) % 16 ≡ s → i < 16 → b + k ≤ 16 → b ≤ i → i < b + k
    → stripe_entries s b k ≡ (literal i, 2 + i) ∷ []
one_stripe_literal s i b zero is lt few from upto = absurd (omega arith)
one_stripe_literal s i b (suc k) is lt few from upto =
    go (ℕ_discrete b i) (λ past. one_stripe_literal s i (suc b) k is lt (omega arith) past
    (omega arith))
  where
    go : Dec (b ≡ i) → (suc b ≤ i → stripe_entries s (suc b) k ≡ (literal i, 2 + i) ∷ [])
        → stripe_entries s b (suc k) ≡ (literal i, 2 + i) ∷ []
    go (yes e) rest =
        let none : stripe_entries s (suc b) k ≡ [] = no_literal s i (suc b) k is lt (omega arith)
        (inl (omega arith)) in
        let here : stripe_of (literal b) ≡ s = literal_stripe b ∙ (ap (λ (j : ℕ). (j + 1) % 16) e
        ∙ is) in
        rw (eq-eqb (stripe_of (literal b)) s here) (λ j. (literal (e j), 2 + e j) ∷ none j)
    go (no n) rest =
        let other_stripe : stripe_of (literal b) ≢ s = λ e. absurd (let f : (b + 1) % 16 ≡ s =
        sym (literal_stripe b) ∙ e in let ne : b ≢ i = n in omega arith) in
        rw (ne_eqb (stripe_of (literal b)) s other_stripe) (rest (let ne : b ≢ i = n in
        omega arith))

-- one table more
pub one_home : {S : Type 0} (maps : List (HashMap ℕ ℕ S)) (m : HashMap ℕ ℕ S) (k n : ℕ)
    → homes_of (map some maps) ≡ homes_from 0 k n →
    m.entries ≡ stripe_entries k 0 n → homes_of (map some (maps ++ m ∷ [])) ≡ homes_from 0 (k + 1) n
one_home maps m k n all is =
    ap homes_of (map-append some maps (m ∷ []))
    ∙ (map-append Rattle.eqc_guard.specs.Rule.entries_at (map some maps) (some m ∷ [])
    ∙ ((λ i. all i ++ some (is i) ∷ []) ∙ sym (homes-push k n)))

-- one reference more
pub one_reference : (refs : List Ref) (r : Ref) (k : ℕ) → map (λ (r : Ref). r.number) refs
    ≡ slots_from 2 k → r.number ≡ k + 2 → map (λ (r : Ref). r.number) (refs ++ r ∷ [])
    ≡ slots_from 2 (k + 1)
one_reference refs r k all is = map-append (λ (r : Ref). r.number) refs (r ∷ [])
    ∙ ((λ i. all i ++ is i ∷ []) ∙ sym (slots-push k))
