-- Lists with a place for each signal, by what the signals have.
use Rattle.std.proofs.Common.{◌≡◌, ℕ, ◌<◌, ◌++◌, List, [], ◌∷◌, Bool, true, false, cond, nat_eq}
use Rattle.std.proofs.Common.{eq-eqb, ne_eqb, length, get_or, set, refl, sym, ◌∙◌, ap, arith}
use Rattle.std.proofs.Common.{Option, Some, None, inl, inr, IsSome}
use Rattle.std.specs.Map.{lookup}
use Rattle.std.proofs.lemmas.List.{get_or-set_same, get_or-set_other, get_or_past, ext_get_or}
use Rattle.std.proofs.lemmas.List.FromFn.{get_or-map-range_with_len, length-map-range_with_len}
use Rattle.std.proofs.lemmas.Bool.{cases_eq, cases_lt, false≢true}
use Rattle.std.proofs.Math.ListN.{length-set}
use Rattle.eqc_build.specs.Listed.{listed}

pub listed_size : {X : Type 0} (n : ℕ) (f : ℕ → X) → length (listed n f) ≡ n
listed_size n f = length-map-range_with_len f 0 n

pub listed_at : {X : Type 0} (n : ℕ) (f : ℕ → X) (s : ℕ) (d : X) → s < n → get_or (listed n f) s d
    ≡ f s
listed_at n f s d h = get_or-map-range_with_len f 0 n s s d h (omega arith)

pub listed_none : {X : Type 0} (n : ℕ) (f : ℕ → Option X) → ((s : ℕ) → f s ≡ None) → (s : ℕ)
    → get_or (listed n f) s None ≡ None
listed_none n f none s = elim (cases_lt s n) [
  | inl inside ↦ listed_at n f s None inside
      ∙ none s
  | inr past ↦ get_or_past (listed n f) s None (omega (arith, past, listed_size n f))
]

-- one signal has something else now
pub listed_set : {X : Type 0} (n : ℕ) (f g : ℕ → X) (s : ℕ) (x : X) → s < n
    → ((q : ℕ) → g q ≡ cond (nat_eq s q) x (f q)) → listed n g ≡ set (listed n f) s x
listed_set n f g s x inside is = ext_get_or x (listed n g) (set (listed n f) s x) (listed_size n g
    ∙ sym (length-set (listed n f) s x ∙ listed_size n f)) each
  where
    each : (i : ℕ) → i < length (listed n g) → get_or (listed n g) i x
        ≡ get_or (set (listed n f) s x) i x
    each i lt =
        let h : i < n = omega (arith, lt, listed_size n g) in
        listed_at n g i x h ∙ (is i ∙ elim (cases_eq i s) [
          | inl same ↦ rw (eq-eqb s i (sym same)) (sym (ap (λ j. get_or (set (listed n f) s x) j x)
              same ∙ get_or-set_same (listed n f) s x x (omega (arith, inside, listed_size n f))))
          | inr apart ↦ rw (ne_eqb s i (λ e. apart (sym e)))
              (sym (get_or-set_other (listed n f) s i x x apart ∙ listed_at n f i x h))
        ])

-- what a map of signals below a number has, with one signal more, or with one less
pub inside_more : {X : Type 0} (n : ℕ) (f g : ℕ → Option X) (s : ℕ) (o : Option X) → s < n
    → ((q : ℕ) → g q ≡ cond (nat_eq s q) o (f q)) →
    ((q : ℕ) → IsSome (f q) → q < n) → (q : ℕ) → IsSome (g q) → q < n
inside_more n f g s o inside is before q some = elim (cases_eq q s) [
  | inl same ↦ omega (arith, inside, same)
  | inr apart ↦ before q (rw (sym (ap (λ b. cond b o (f q)) (ne_eqb s q (λ e. apart (sym e))))
      ∙ sym (is q)) some)
]

-- the last of some entries, whose key stands in none of the others
pub lookup_last : {X : Type 0} (s : ℕ) (x : X) (es : List (ℕ × X)) → lookup (nat_eq s) es ≡ None
    → lookup (nat_eq s) (es ++ (s, x) ∷ []) ≡ Some x
lookup_last s x [] none = rw (eq-eqb s s refl) refl
lookup_last {X = X} s x (e ∷ es) none = by (nat_eq s e.0) none (lookup_last s x es)
  where
    by : (b : Bool) → cond b (Some e.1) (lookup (nat_eq s) es) ≡ None →
        (lookup (nat_eq s) es ≡ None → lookup (nat_eq s) (es ++ (s, x) ∷ []) ≡ Some x) →
        cond b (Some e.1) (lookup (nat_eq s) (es ++ (s, x) ∷ [])) ≡ Some x
    by true clash more = absurd (let q : Some e.1 ≡ None = clash in cc)
    by false rest more = more rest

-- where nothing comes out of a map it has no entries
pub no_entries : {X : Type 0} (es : List X) → (0 < length es → false ≡ true) → es ≡ []
no_entries [] h = refl
no_entries (e ∷ es) h = absurd (false≢true (h (omega arith)))
