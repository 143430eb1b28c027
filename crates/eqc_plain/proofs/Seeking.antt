-- Where the words of a unique table are found, as words come.
use Rattle.std.proofs.Common.{◌≡◌, ◌≢◌, ℕ, ◌+◌, ◌<◌, List, [], ◌∷◌, ◌++◌, length, get_or, set, sym}
use Rattle.std.proofs.Common.{◌∙◌, ap, subst, arith, inl, inr, length-append}
use Rattle.std.proofs.lemmas.Bool.{cases_eq, cases_lt}
use Rattle.std.proofs.lemmas.List.{get_or-set_same, get_or-set_other, length-set}
use Rattle.std.proofs.lemmas.List.{get_or_append_left, get_or-append-add}
use Rattle.eqc_plain.specs.Seeking.{home_of, mark_of, position, entry_behind, AreTaken, Sits}
use Rattle.eqc_plain.specs.Seeking.{IsPlaced, IsFree, IsMissed}

-- what stands behind a word's own place, where one place is written
behind_set : (ps : List ℕ) (i v w e : ℕ) → entry_behind (set ps i v) w e
    ≡ get_or (set ps i v) (position (length ps) (home_of (length ps) w) e) 0
behind_set ps i v w e = ap (λ n. get_or (set ps i v) (position n (home_of n w) e) 0)
    (length-set ps i v)

-- a place that is taken isn't the free one that is written
other : (ps : List ℕ) (i v q : ℕ) → get_or ps i 0 ≡ 0 → get_or ps q 0 ≢ 0 → get_or (set ps i v) q 0
    ≡ get_or ps q 0
other ps i v q z n = elim (cases_eq q i) [
  | inl e ↦ absurd (n (ap (λ k. get_or ps k 0) e ∙ z))
  | inr ne ↦ get_or-set_other ps i q v 0 ne
]

-- what is taken stays so
taken_stays : (ps : List ℕ) (i v w n : ℕ) → get_or ps i 0 ≡ 0 → AreTaken ps w n
    → AreTaken (set ps i v) w n
taken_stays ps i v w n z t e h a =
    t e h (sym (other ps i v (position (length ps) (home_of (length ps) w) e) z (t e h))
    ∙ (sym (behind_set ps i v w e) ∙ a))

-- what is found stays so
pub sits_stays : (ps : List ℕ) (i v w k : ℕ) → get_or ps i 0 ≡ 0 → Sits ps w k
    → Sits (set ps i v) w k
sits_stays ps i v w k z s =
    record {
      step = s.step;
      within = omega (arith, s.within, length-set ps i v);
      there = behind_set ps i v w s.step
          ∙ (other ps i v (position (length ps) (home_of (length ps) w) s.step) z
          (λ e. absurd (omega (arith, s.there, e))) ∙ s.there);
      before = taken_stays ps i v w s.step z s.before;
    }

-- and a word is found whose number comes into the first free place
pub sits_new : (ps : List ℕ) (i w k : ℕ) → IsFree ps w i → Sits (set ps i (mark_of w + k + 1)) w k
sits_new ps i w k f =
    let v : ℕ = mark_of w + k + 1 in
    record {
      step = f.step;
      within = omega (arith, f.within, length-set ps i v);
      there = behind_set ps i v w f.step ∙ (ap (λ q. get_or (set ps i v) q 0) (sym f.at)
          ∙ get_or-set_same ps i v 0 f.inside);
      before = taken_stays ps i v w f.step f.free f.before;
    }

-- of the words up to a slot each is found, as that one comes
pub placed_next : (ps ws : List ℕ) (i n : ℕ) → IsFree ps (get_or ws n 0) i
    → ((k : ℕ) → k < n → Sits ps (get_or ws k 0) k) →
    (k : ℕ) → k < n + 1 → Sits (set ps i (mark_of (get_or ws n 0) + n + 1)) (get_or ws k 0) k
placed_next ps ws i n f p k h = elim (cases_lt k n) [
  | inl low ↦ sits_stays ps i (mark_of (get_or ws n 0) + n + 1) (get_or ws k 0) k f.free (p k low)
  | inr high ↦
      let e : k ≡ n = omega arith in
      rw e (sits_new ps i (get_or ws n 0) n f)
]

last_is : (old : List ℕ) (w : ℕ) → get_or (old ++ w ∷ []) (length old) 0 ≡ w
last_is old w = let z : length old + 0 ≡ length old = omega arith in
    subst (λ n. get_or (old ++ w ∷ []) n 0 ≡ w) z (get_or-append-add old (w ∷ []) 0 0)

-- each word is found, as one comes behind them
pub placed_more : (ps ws : List ℕ) (w i : ℕ) → IsFree ps w i → IsPlaced ps ws
    → IsPlaced (set ps i (mark_of w + length ws + 1)) (ws ++ w ∷ [])
placed_more ps ws w i f p k h = elim (cases_lt k (length ws)) [
  | inl low ↦ rw (get_or_append_left ws (w ∷ []) 0 k low) (sits_stays ps i (mark_of w + length ws
      + 1) (get_or ws k 0) k f.free (p k low))
  | inr high ↦
      let e : k ≡ length ws = omega (arith, length-append ws (w ∷ [])) in
      rw (e, last_is ws w) (sits_new ps i w (length ws) f)
]

-- a word is missed that no entry names up to a free place
pub missed_before_free : (ps ws : List ℕ) (w n : ℕ) → entry_behind ps w n ≡ 0 →
    ((e : ℕ) → e < n → (k : ℕ) → k < length ws → get_or ws k 0 ≡ w → entry_behind ps w e ≢ mark_of w
    + k + 1) → IsMissed ws ps w
missed_before_free ps ws w n z m p k h at =
    let s : Sits ps w k = subst (λ x. Sits ps x k) at (p k h) in
    elim (cases_lt s.step n) [
      | inl low ↦ m s.step low k h at s.there
      | inr high ↦
          elim (cases_eq n s.step) [
            | inl same ↦ absurd (omega (arith, s.there, ap (entry_behind ps w) same, z))
            | inr less ↦ s.before n (omega arith) z
          ]
    ]

-- and one that no entry names at all
pub missed_by_all : (ps ws : List ℕ) (w : ℕ) →
    ((e : ℕ) → e < length ps → (k : ℕ) → k < length ws → get_or ws k 0 ≡ w
    → entry_behind ps w e ≢ mark_of w + k + 1) → IsMissed ws ps w
missed_by_all ps ws w m p k h at =
    let s : Sits ps w k = subst (λ x. Sits ps x k) at (p k h) in
    m s.step s.within k h at s.there
