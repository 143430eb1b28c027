-- Each verdict in its place.
use Rattle.std.proofs.Common.{◌≡◌, ◌≢◌, ℕ, zero, suc, ◌+◌, ◌<◌, ◌≤◌, List, [], ◌∷◌, ◌++◌}
use Rattle.std.proofs.Common.{true≢false, true, is_some, length, set, get_or, replicate, Option}
use Rattle.std.proofs.Common.{Some, None, eq-eqb, ne_eqb, lt-ltb, le-ltb, get_or-set_same, refl}
use Rattle.std.proofs.Common.{sym, ap, subst, ◌∙◌, arith}
use native.Mathlib.Decide.{ℕ_discrete, dec_le}
use Rattle.std.proofs.lemmas.List.{map-append}
use Rattle.eqc_parallel.specs.declared.verdict.Finding.{Finding}
use Rattle.eqc_parallel.specs.declared.verdict.Verdict.{Verdict}
use Rattle.eqc_parallel.specs.Ticket.{times, once_below}
use Rattle.eqc_parallel.specs.Verdicts.{Question, IsFoundAt, IsRight, named, Stands}
use Rattle.eqc_parallel.proofs.TicketCounts.{times-append}

none_there : (n o : ℕ) → get_or (replicate {A = Option Finding} n None) o None ≡ None
none_there zero o = refl
none_there (suc n) zero = refl
none_there (suc n) (suc o) = none_there n o

get_else : (row : List (Option Finding)) (i o : ℕ) (y : Option Finding) → o ≢ i
    → get_or (set row i y) o None ≡ get_or row o None
get_else [] i o y n = refl
get_else (x ∷ row) zero zero y n = absurd (n refl)
get_else (x ∷ row) zero (suc o) y n = refl
get_else (x ∷ row) (suc i) zero y n = refl
get_else (x ∷ row) (suc i) (suc o) y n = get_else row i o y (λ e. n (ap suc e))

more : (x : ℕ) (rest : List Verdict) (v : Verdict) → times x (named (rest ++ v ∷ []))
    ≡ times x (named rest) + times x (v.output ∷ [])
more x rest v = ap (times x) (map-append (λ (w : Verdict). w.output) rest (v ∷ []))
    ∙ times-append x (named rest) (v.output ∷ [])

one : (x : ℕ) → times x (x ∷ []) ≡ 1
one x = rw (eq-eqb x x refl) refl

other : (x y : ℕ) → y ≢ x → times x (y ∷ []) ≡ 0
other x y n = rw (ne_eqb y x n) refl

once_small : (x m : ℕ) → once_below x m ≤ 1
once_small x m = go (dec_le (suc x) m)
  where
    go : Dec (suc x ≤ m) → once_below x m ≤ 1
    go (yes lt) = rw (lt-ltb x m lt) (omega arith)
    go (no nl) = rw (le-ltb x m (omega arith)) (omega arith)

-- with all verdicts still to be placed nothing stands anywhere
pub begins : (q : Question) (m : ℕ) (vs : List Verdict)
    → ((x : ℕ) → times x (named vs) ≡ once_below x m) → (o : ℕ) → o < m
    → Stands q vs o (get_or (replicate {A = Option Finding} m None) o None)
begins q m vs once o lt = rw (none_there m o) (let one_there : once_below o m ≡ 1 =
    rw (lt-ltb o m lt) refl in let r = once o in omega arith)

-- v is placed, of verdicts that name each of m outputs at most once
module _ (q : Question) (m : ℕ) (rest : List Verdict) (v : Verdict) (few : (x : ℕ)
    → times x (named (rest ++ v ∷ [])) ≤ once_below x m) where
  pub is_output : v.output < m
  is_output = go (dec_le (suc v.output) m)
    where
      go : Dec (suc v.output ≤ m) → v.output < m
      go (yes lt) = lt
      go (no nl) = absurd (let none : once_below v.output m ≡ 0 =
          rw (le-ltb v.output m (omega arith)) refl in let f = few v.output in
          omega (arith, more v.output rest v, one v.output))

  pub fewer : (x : ℕ) → times x (named rest) ≤ once_below x m
  fewer x = let f = few x in omega (arith, more x rest v)

  stays : (o : ℕ) (s : Option Finding) → v.output ≢ o → Stands q (rest ++ v ∷ []) o s
      → Stands q rest o s
  stays o None n h = omega (arith, more o rest v, other o v.output n)
  stays o (Some w) n h = (h.0, (let z = h.1 in omega (arith, more o rest v)))

  pub placed : (row : List (Option Finding)) → length row ≡ m → IsRight q v →
      ((o : ℕ) → o < m → Stands q (rest ++ v ∷ []) o (get_or row o None)) → (o : ℕ) → o < m →
      Stands q rest o (get_or (set row v.output (Some v.finding)) o None)
  placed row len right h o lt = go (ℕ_discrete v.output o)
    where
      go : Dec (v.output ≡ o) → Stands q rest o (get_or (set row v.output (Some v.finding)) o None)
      go (yes e) =
          subst (λ (k : ℕ). Stands q rest k (get_or (set row v.output (Some v.finding)) k None)) e
          (rw (get_or-set_same row v.output (Some v.finding) None (rw len is_output)) (
            right,
            (let f = few v.output in omega (
              arith,
              more v.output rest v,
              one v.output,
              once_small v.output m,
            )),
          ))
      go (no n) = rw (get_else row v.output o (Some v.finding) (λ e. n (sym e)))
          (stays o (get_or row o None) n (h o lt))

  -- its place is free
  pub no_double : (s : Option Finding) → is_some s ≡ true → Stands q (rest ++ v ∷ []) v.output s → ⊥
  no_double None e h = true≢false (sym e)
  no_double (Some w) e h = let z = h.1 in omega (arith, more v.output rest v, one v.output)

-- what stands at a place with nothing left to be placed
pub stood : (q : Question) (o : ℕ) (s : Option Finding) (found : Finding) → s ≡ Some found
    → Stands q [] o s → IsFoundAt q o found
stood q o s found e h = let both : Stands q [] o (Some found) = subst (Stands q [] o) e h in both.0
