-- Blocks of values chosen at once.
use Rattle.std.proofs.Common.{
  ◌≡◌,
  ℕ,
  zero,
  suc,
  ◌+◌,
  ◌-◌,
  ◌*◌,
  ◌<◌,
  ◌≤◌,
  inl,
  inr,
  Bool,
  true,
  false,
  ◌==◌,
  eqb-true,
  not,
  ◌&&◌,
  ◌||◌,
  List,
  [],
  ◌∷◌,
  ◌++◌,
  length,
  take,
  drop,
  replicate,
  drop-cons,
  get_or,
  if◌then◌else◌,
  sym,
  ap,
  refl,
  ◌∙◌,
  arith,
  append_assoc,
  append-nil,
  true≢false,
}
use Rattle.std.specs.List.{list_any, All}
use Rattle.std.proofs.Math.Nat.{mul_comm}
use Rattle.std.proofs.Math.Seq.{take-length}
use Rattle.std.proofs.lemmas.Nat.{mul-add-lt}
use Rattle.std.proofs.lemmas.Bool.{cases_lt}
use Rattle.std.proofs.lemmas.List.{length-append, length-drop, length-take-le, length-replicate}
use Rattle.std.proofs.lemmas.List.{take-append-drop}
use Rattle.std.proofs.lemmas.List.Folds.{list_any-append}
use Rattle.std.proofs.lemmas.List.Elements.{All-take, All-drop}
use Rattle.eqc_tree.specs.Assigned.{IsSatisfiable}
use Rattle.eqc_cover.specs.Narrowing.{IsNarrowed, decided}
use Rattle.eqc_tree.proofs.FollowsLemmas.{and_true}
use Rattle.eqc_tree.proofs.Choosing.{IsOver, IsChosen, chooses_false, chooses_true, chosen_as}

-- with one variable more that isn't true
none_more : (r x y : Bool) → (r && not (x || y)) ≡ ((r && not x) && not y)
none_more true true y = refl
none_more true false y = refl
none_more false x y = refl

none_less : (r x y : Bool) → (r && not x) ≡ false → (r && not (x || y)) ≡ false
none_less true true y h = refl
none_less true false y h = absurd (true≢false h)
none_less false x y h = refl

-- values more, where what is left with all of them false is satisfiable
pub chooses_none : (k : ℕ) (vs : List ℕ) (f rest low : (ℕ → Bool) → Bool) (bits : List Bool)
    → IsOver vs f → IsChosen vs f rest bits → length bits + k ≤ length vs
    → ((a : ℕ → Bool) → low a ≡ (rest a && not (list_any a (take k (drop (length bits) vs)))))
    → IsSatisfiable low → IsChosen vs f low (bits ++ replicate k false)
chooses_none zero vs f rest low bits over chosen h left satisfiable =
    rw (append-nil bits) (chosen_as vs f rest low bits (λ a. left a ∙ and_true (rest a)) chosen)
chooses_none (suc k) vs f rest low bits over chosen h left satisfiable =
    let v : ℕ = get_or vs (length bits) 0 in
    let mid : (ℕ → Bool) → Bool = λ a. rest a && not (a v) in
    let here : length bits < length vs = omega arith in
    let more : length (bits ++ false ∷ []) ≡ suc (length bits) = length-append bits (false ∷ [])
    ∙ omega arith in
    let parts : (a : ℕ → Bool)
    → low a ≡ (rest a && not (a v || list_any a (take k (drop (suc (length bits)) vs)))) =
    λ a. left a ∙ ap (λ xs. rest a && not (list_any a (take (suc k) xs)))
    (drop-cons vs (length bits) 0 here) in
    let step : IsChosen vs f mid (bits ++ false ∷ []) = chooses_false vs f rest mid bits over chosen
    here (λ a. refl)
    (λ none. satisfiable (λ a. parts a
    ∙ none_less (rest a) (a v) (list_any a (take k (drop (suc (length bits)) vs))) (none a))) in
    let rests : (a : ℕ → Bool)
    → low a ≡ (mid a && not (list_any a (take k (drop (length (bits ++ false ∷ [])) vs)))) =
    λ a. parts a ∙ none_more (rest a) (a v) (list_any a (take k (drop (suc (length bits)) vs)))
    ∙ ap (λ n. mid a && not (list_any a (take k (drop n vs)))) (sym more) in
    let whole : IsChosen vs f low ((bits ++ false ∷ []) ++ replicate k false) =
    chooses_none k vs f mid low (bits ++ false ∷ []) over step (omega arith) rests satisfiable
    in
    rw append_assoc at whole

-- the value true more, where nothing is left with the value false
pub chooses_one : (vs : List ℕ) (f rest left : (ℕ → Bool) → Bool) (bits : List Bool) → IsOver vs f
    → IsChosen vs f rest bits → length bits < length vs
    → ((a : ℕ → Bool) → left a ≡ rest a)
    → ((a : ℕ → Bool) → (rest a && not (list_any a (take 1 (drop (length bits) vs)))) ≡ false)
    → IsChosen vs f left (bits ++ true ∷ [])
chooses_one vs f rest left bits over chosen h same nothing =
    chosen_as vs f rest left (bits ++ true ∷ []) same (chooses_true vs f rest bits over chosen h
    (λ a. ap (λ b. rest a && not b) (sym (or_false (a (get_or vs (length bits) 0))))
    ∙ (ap (λ xs. rest a && not (list_any a (take 1 xs))) (sym (drop-cons vs (length bits) 0 h))
    ∙ nothing a)))
  where
    or_false : (b : Bool) → (b || false) ≡ b
    or_false true = refl
    or_false false = refl

-- what the try of a block decides
pub chooses_decided : (b : Bool) (k : ℕ) (vs block : List ℕ) (f rest left : (ℕ → Bool)
    → Bool) (bits more : List Bool)
    → IsOver vs f → IsChosen vs f rest bits → length bits < length vs → length bits + k ≤ length vs
    → block ≡ take k (drop (length bits) vs) → IsNarrowed b block rest left
    → more ≡ bits ++ decided b k → IsChosen vs f left more
chooses_decided true k vs block f rest left bits more over chosen here within at narrowed e =
    let narrow : IsNarrowed true (take k (drop (length bits) vs)) rest left = rw at at narrowed in
    rw e (chooses_none k vs f rest left bits over chosen within narrow.0 narrow.1)
chooses_decided false k vs block f rest left bits more over chosen here within at narrowed e =
    by (k == 1) refl (rw at at narrowed)
  where
    by : (t : Bool) → (k == 1) ≡ t → IsNarrowed false (take k (drop (length bits) vs)) rest left
        → IsChosen vs f left more
    by true h narrow =
        let one : k ≡ 1 = eqb-true k 1 h in
        rw (e, h) (chooses_one vs f rest left bits over chosen here narrow.0 (rw one at narrow.1))
    by false h narrow = rw (e, h, append-nil bits) (chosen_as vs f rest left bits narrow.0 chosen)

-- a block at the front of the open positions
pub block_is : (vs : List ℕ) (m k : ℕ) → take k (take (length vs - m) (drop m vs))
    ≡ take k (drop m vs)
block_is vs m k = ap (take k) (ap (λ n. take n (drop m vs)) (sym (length-drop m vs))
    ∙ take-length (drop m vs))

pub open_long : (vs : List ℕ) (m : ℕ) → length (take (length vs - m) (drop m vs)) ≡ length vs - m
open_long vs m = length-take-le (length vs - m) (drop m vs) (omega (arith, length-drop m vs))

pub block_long : (vs : List ℕ) (m k : ℕ) → k ≤ length vs - m
    → length (take k (take (length vs - m) (drop m vs))) ≡ k
block_long vs m k h = length-take-le k (take (length vs - m) (drop m vs))
    (omega (arith, open_long vs m))

pub decided_most : (b : Bool) (k : ℕ) → 0 < k → length (decided b k) ≤ k
decided_most true k some = omega (arith, length-replicate k false)
decided_most false k some = by (k == 1)
  where
    by : (t : Bool) → length (if t then true ∷ [] else []) ≤ k
    by true = omega arith
    by false = omega arith

-- fewer positions are open, or the next block is shorter
pub tries_fall : (n left less longest next : ℕ) → less ≤ left → (less ≡ left → next < longest)
    → next ≤ 2 * n → 0 < longest → less * (2 * n + 1) + next < left * (2 * n + 1) + longest
tries_fall n left less longest next falls same few some = elim (cases_lt less left) [
  | inl fewer ↦ omega (
    arith,
    mul-add-lt less (2 * n + 1) next left fewer (omega arith),
    mul_comm (2 * n + 1) left,
  )
  | inr all ↦
      let e : less ≡ left = omega arith in
      let short = same e in
      rw e (omega arith)
]

-- variables of a block are among all
pub block_within : (n : ℕ) (vs : List ℕ) (m k : ℕ) → All (λ v. v < n) vs
    → All (λ v. v < n) (take k (take (length vs - m) (drop m vs)))
block_within n vs m k h = All-take (λ v. v < n) k (take (length vs - m) (drop m vs))
    (All-take (λ v. v < n) (length vs - m) (drop m vs) (All-drop (λ v. v < n) m vs h))

-- one of the variables of both halves
pub some_of_halves : (n : ℕ) (vs some others : List ℕ) (a : ℕ → Bool) → some ≡ take n vs
    → others ≡ drop n vs → (list_any a some || list_any a others) ≡ list_any a vs
some_of_halves n vs some others a e f = rw (e, f) (sym (list_any-append a (take n vs) (drop n vs))
    ∙ ap (list_any a) (take-append-drop n vs))
