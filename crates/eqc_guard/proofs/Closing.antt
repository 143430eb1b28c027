-- The count words that are above 0, in a row and by kind.
use Rattle.std.proofs.Common.{◌≡◌, ℕ, zero, suc, ◌+◌, ◌-◌, ◌<◌, ◌≤◌, List, get_or, set, ltb}
use Rattle.std.proofs.Common.{if◌then◌else◌, Bool, Option, Some, refl, sym, ap, subst, ◌∙◌, arith}
use Rattle.std.proofs.lemmas.Bool.{lt-ltb, le-ltb}
use Rattle.std.proofs.lemmas.List.{set-get_or}
use mathlib.Core.Option.{some}
use Rattle.eqc_core.specs.declared.sizes.Sizes.{Sizes}
use Rattle.eqc_core.specs.View.{View}
use Rattle.eqc_core.specs.Words.{Words}
use Rattle.eqc_core.specs.Tables.{Homes}
use Rattle.eqc_core.specs.Lawful.{IsSized, Lawful}
use Rattle.eqc_guard.specs.Closing.{above_zero, IsTallied}
use Rattle.eqc_guard.specs.Known.{flat, Known, IsCopy, IsKnown}
use Rattle.eqc_guard.specs.Standing.{Standing}
use Rattle.eqc_guard.specs.Splitting.{IsCopied}
use Rattle.eqc_guard.specs.Telling.{Copies, copied}
use Rattle.eqc_guard.specs.Rule.{counts_from}
use Rattle.eqc_guard.proofs.Laid.{get_count}

-- a load leaves the copy, and finds its word
pub read_stays : (k after : Known) (i found : ℕ) (ws : List ℕ) → Copies k i found found after
    → k.copy ≡ Some ws → (after.copy ≡ Some ws) × (get_or ws i 0 ≡ found)
read_stays k after i found ws c has =
    let seen = c.seen ws has in (
      c.copy ∙ (ap (λ (o : Option (List ℕ)). copied o i found) has
          ∙ ap (λ (l : List ℕ). Some l) (ap (λ (n : ℕ). set ws i n) (sym seen)
          ∙ set-get_or ws i 0)),
      seen,
    )

-- the count words in a row are those by kind
counts_in : (z : Sizes) (w : Words) (hs : Homes) (vs : List View) (n : ℕ) → IsSized z w hs vs
    → n + 2 ≤ z.names → above_zero (flat w) (counts_from z + 2) n ≡ above_zero w.counts 2 n
counts_in z w hs vs zero sized few = refl
counts_in z w hs vs (suc n) sized few =
    let here : get_or (flat w) (counts_from z + 2 + n) 0 ≡ get_or w.counts (2 + n) 0 =
    ap (λ (k : ℕ). get_or (flat w) k 0) (let e : counts_from z + 2 + n ≡ counts_from z + (2 + n) =
    omega arith in e) ∙ get_count z w hs vs sized (2 + n) (omega arith) in
    λ i. counts_in z w hs vs n sized (omega arith) i + (if ltb 0 (here i) then 1 else 0)

-- a copy that was taken now is of the view before
copy_before : (k after : Known) (ws : List ℕ) → after.core ≡ k.core → IsCopy after ws → IsCopy k ws
copy_before k after ws same c = record {
  words = c.words;
  homes = c.homes;
  views = c.views;
  id = c.id;
  laid = c.laid;
  lawful = subst (λ (v : View). Lawful v.sizes c.words c.homes c.views) same c.lawful;
  mine = c.mine ∙ ap (λ (v : View). some v) same;
  alone = c.alone;
}

-- one word more
more : (ws : List ℕ) (i m : ℕ) → above_zero ws i (m + 1) ≡ above_zero ws i m
    + (if ltb 0 (get_or ws (i + m) 0) then 1 else 0)
more ws i m = ap (above_zero ws i) (let e : m + 1 ≡ suc m = omega arith in e)

pub counts_one : (ws : List ℕ) (i m n counted : ℕ) → counted ≡ above_zero ws i m
    → 0 < get_or ws (i + m) 0 → n ≡ counted + 1 → n ≡ above_zero ws i (m + 1)
counts_one ws i m n counted is pos next =
    let one : above_zero ws i (m + 1) ≡ above_zero ws i m + 1 = more ws i m
    ∙ ap (λ (b : Bool). above_zero ws i m + (if b then 1 else 0))
    (lt-ltb 0 (get_or ws (i + m) 0) pos) in
    omega arith

pub counts_none : (ws : List ℕ) (i m n counted : ℕ) → counted ≡ above_zero ws i m
    → get_or ws (i + m) 0 ≤ 0 → n ≡ counted → n ≡ above_zero ws i (m + 1)
counts_none ws i m n counted is none next =
    let same : above_zero ws i (m + 1) ≡ above_zero ws i m + 0 = more ws i m
    ∙ ap (λ (b : Bool). above_zero ws i m + (if b then 1 else 0))
    (le-ltb 0 (get_or ws (i + m) 0) none) in
    omega arith

-- the tally is that of the state
pub tallies : (old mid : Standing) (counted : ℕ) → IsCopied old mid → IsKnown mid.known
    → ((ws : List ℕ) → mid.known.copy ≡ Some ws
    → counted ≡ above_zero ws (counts_from mid.known.core.sizes + 2) (mid.known.core.sizes.names -
    2)) → IsTallied counted old.known
tallies old mid counted c known is =
    let same = c.step.known.core in
    let state = copy_before old.known mid.known c.words same (known.state c.words c.copy) in
    let sized = state.lawful.sized in
    let two = sized.some_names in
    record {
      words = c.words;
      state = state;
      same = c.same;
      exact = is c.words c.copy
          ∙ (ap (λ (v : View). above_zero c.words (counts_from v.sizes + 2) (v.sizes.names - 2))
          same
          ∙ (ap (λ (ws : List ℕ). above_zero ws (counts_from old.known.core.sizes + 2)
          (old.known.core.sizes.names - 2)) state.laid
          ∙ counts_in old.known.core.sizes state.words state.homes state.views
          (old.known.core.sizes.names - 2) sized (omega arith)));
    }
