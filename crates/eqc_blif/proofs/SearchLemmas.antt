-- The answer of a search for a byte, as a position or the length.
use Rattle.std.proofs.Common.{◌≡◌, ℕ, zero, suc, ◌+◌, ◌-◌, ◌<◌, ◌≤◌, Bool, true, false, List, []}
use Rattle.std.proofs.Common.{◌∷◌, Some, None, length, take, drop, get_or, arith, sym}
use Rattle.std.specs.List.{position_or_len}
use Rattle.std.proofs.lemmas.List.{take_rest}
use Rattle.std.proofs.lemmas.List.Sums.{position_or_len_is}
use Rattle.std.proofs.lemmas.Bool.{false_from_ne_true}
use Rattle.memchr.specs.Find.{IsFirstByte}

-- no byte passes the test
pub not_found : (test : ℕ → Bool) (bytes : List ℕ) → IsFirstByte test bytes None
    → position_or_len test bytes ≡ length bytes
not_found test bytes none = position_or_len_is test bytes (length bytes) 0 (omega arith)
    (λ k h. false_from_ne_true _ (none k (omega arith) h)) (λ h. absurd (omega arith))

-- the first byte that passes the test
pub found_first : (test : ℕ → Bool) (bytes : List ℕ) (i : ℕ) → IsFirstByte test bytes (Some i)
    → position_or_len test bytes ≡ i
found_first test bytes i is = position_or_len_is test bytes i 0 (omega (arith, is.0.high))
    (λ k h. false_from_ne_true _ (is.0.before k (omega arith) h)) (λ _. is.1)

-- where the first bytes fail the test, the search goes on behind them
pub found_behind : (test : ℕ → Bool) (n : ℕ) (bytes : List ℕ) → n ≤ length bytes
    → ((k : ℕ) → k < n → test (get_or bytes k 0) ≡ false) → position_or_len test bytes ≡ n
    + position_or_len test (drop n bytes)
found_behind test zero bytes within none = omega arith
found_behind test (suc n) [] within none = absurd (omega arith)
found_behind test (suc n) (byte ∷ bytes) within none =
    let here : test byte ≡ false = none 0 (omega arith) in
    let rest = found_behind test n bytes (omega arith) (λ k below. none (suc k) (omega arith)) in
    rw (here, rest) (omega arith)

-- where the search of the first bytes ended
pub found_near : (test : ℕ → Bool) (i : ℕ) (bytes : List ℕ) → i < length bytes
    → ((k : ℕ) → k < i → test (get_or bytes k 0) ≡ false) → test (get_or bytes i 0) ≡ true
    → i ≡ position_or_len test bytes
found_near test i bytes within none here = sym (position_or_len_is test bytes i 0 (omega arith) none
    (λ _. here))

-- where the search behind the first bytes ended
pub found_far : (test : ℕ → Bool) (n end : ℕ) (bytes : List ℕ) → n ≤ length bytes
    → ((k : ℕ) → k < n → test (get_or bytes k 0) ≡ false)
    → end ≡ position_or_len test (take (length bytes - n) (drop n bytes))
    → n + end ≡ position_or_len test bytes
found_far test n end bytes within none is =
    rw (is, take_rest bytes n) (sym (found_behind test n bytes within none))
