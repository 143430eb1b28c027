-- A word in the row of all words, by its kind.
use Rattle.std.proofs.Common.{◌≡◌, ℕ, zero, suc, ◌+◌, ◌*◌, ◌<◌, List, [], ◌∷◌, ◌++◌, length, set}
use Rattle.std.proofs.Common.{get_or, refl, ap, ◌∙◌, arith}
use Rattle.std.proofs.lemmas.List.{set-append_left, get_or_append_left}
use Rattle.eqc_core.specs.declared.sizes.Sizes.{Sizes}
use Rattle.eqc_core.specs.View.{View}
use Rattle.eqc_core.specs.Words.{Words, announced_words}
use Rattle.eqc_core.specs.Tables.{Homes}
use Rattle.eqc_core.specs.Lawful.{IsSized}
use Rattle.eqc_core.specs.Moves.{with_announced, with_count, with_node, with_cell, with_box}
use Rattle.eqc_core.specs.Moves.{with_lock}
use Rattle.eqc_guard.specs.Known.{apart, spread, flat}
use Rattle.eqc_guard.specs.Rule.{counts_from, nodes_from, cells_from, boxes_from, locks_from}

-- a write and a read behind n others
module _ {A : Type 0} where
  pub set_behind : (p q : List A) (n i : ℕ) (y : A) → length p ≡ n → set (p ++ q) (n + i) y ≡ p
      ++ set q i y
  set_behind [] q n i y e = ap (λ (k : ℕ). set q k y) (omega arith)
  set_behind (x ∷ p) q zero i y e = absurd (omega arith)
  set_behind (x ∷ p) q (suc n) i y e =
      rw (suc_add n i) (ap (λ l. x ∷ l) (set_behind p q n i y (omega arith)))
    where
      suc_add : (n i : ℕ) → suc n + i ≡ suc (n + i)
      suc_add n i = omega arith

  pub get_behind : (p q : List A) (n i : ℕ) (d : A) → length p ≡ n → get_or (p ++ q) (n + i) d
      ≡ get_or q i d
  get_behind [] q n i d e = ap (λ (k : ℕ). get_or q k d) (omega arith)
  get_behind (x ∷ p) q zero i d e = absurd (omega arith)
  get_behind (x ∷ p) q (suc n) i d e = rw (suc_add n i) (get_behind p q n i d (omega arith))
    where
      suc_add : (n i : ℕ) → suc n + i ≡ suc (n + i)
      suc_add n i = omega arith

eight_more : (s : ℕ) → 8 * suc s ≡ suc (suc (suc (suc (suc (suc (suc (suc (8 * s))))))))
eight_more s = omega arith

-- a write and a read of a word that lies apart from the others
set_apart : (xs : List ℕ) (s y : ℕ) → set (apart xs) (8 * s) y ≡ apart (set xs s y)
set_apart [] s y = refl
set_apart (x ∷ xs) zero y = refl
set_apart (x ∷ xs) (suc s) y = rw (eight_more s) (ap (λ l. x ∷ 0 ∷ 0 ∷ 0 ∷ 0 ∷ 0 ∷ 0 ∷ 0 ∷ l)
    (set_apart xs s y))

get_apart : (xs : List ℕ) (s d : ℕ) → get_or (apart xs) (8 * s) d ≡ get_or xs s d
get_apart [] s d = refl
get_apart (x ∷ xs) zero d = refl
get_apart (x ∷ xs) (suc s) d = rw (eight_more s) (get_apart xs s d)

pub apart_length : (xs : List ℕ) → length (apart xs) ≡ 8 * length xs
apart_length [] = refl
apart_length (x ∷ xs) = let e = apart_length xs in omega arith

two_more : (s : ℕ) → 2 * suc s ≡ suc (suc (2 * s))
two_more s = omega arith

-- a write and a read of an announcement word
set_spread : (xs : List ℕ) (s y : ℕ) → set (spread xs) (2 * s) y ≡ spread (set xs s y)
set_spread [] s y = refl
set_spread (x ∷ xs) zero y = refl
set_spread (x ∷ xs) (suc s) y = rw (two_more s) (ap (λ l. x ∷ 0 ∷ l) (set_spread xs s y))

get_spread : (xs : List ℕ) (s d : ℕ) → get_or (spread xs) (2 * s) d ≡ get_or xs s d
get_spread [] s d = refl
get_spread (x ∷ xs) zero d = refl
get_spread (x ∷ xs) (suc s) d = rw (two_more s) (get_spread xs s d)

pub spread_length : (xs : List ℕ) → length (spread xs) ≡ 2 * length xs
spread_length [] = refl
spread_length (x ∷ xs) = let e = spread_length xs in omega arith

abbrev behind_cells : Words → List ℕ
behind_cells w = w.boxes ++ apart w.locks

abbrev behind_nodes : Words → List ℕ
behind_nodes w = w.cells ++ (w.boxes ++ apart w.locks)

abbrev behind_counts : Words → List ℕ
behind_counts w = w.nodes ++ (w.cells ++ (w.boxes ++ apart w.locks))

abbrev behind_announced : Words → List ℕ
behind_announced w = w.counts ++ (w.nodes ++ (w.cells ++ (w.boxes ++ apart w.locks)))

place : (n k c : ℕ) → n + (k + k) + c ≡ n + (k + (k + c))
place n k c = omega arith

node_place : (n k c : ℕ) → n + k + c ≡ n + (k + c)
node_place n k c = omega arith

box_place : (n k c b : ℕ) → n + (k + k) + c + b ≡ n + (k + (k + (c + b)))
box_place n k c b = omega arith

lock_place : (n k c b s : ℕ) → n + (k + k) + c + b + s ≡ n + (k + (k + (c + (b + s))))
lock_place n k c b s = omega arith

module _ (z : Sizes) (w : Words) (hs : Homes) (vs : List View) (sized : IsSized z w hs vs) where
  -- so many words stand before the counts
  before : length (spread w.announced) ≡ counts_from z
  before = spread_length w.announced ∙ ap (λ (n : ℕ). 2 * n) sized.announced

  pub set_announced : (m y : ℕ) → m < announced_words z → set (flat w) (2 * m) y
      ≡ flat (with_announced w m y)
  set_announced m y lt =
      set-append_left (spread w.announced) (behind_announced w) (2 * m) y (let n = before in
      omega arith)
      ∙ ap (λ l. l ++ behind_announced w) (set_spread w.announced m y)

  pub get_announced : (m : ℕ) → m < announced_words z → get_or (flat w) (2 * m) 0
      ≡ get_or w.announced m 0
  get_announced m lt = get_or_append_left (spread w.announced) (behind_announced w) 0 (2 * m)
      (let n = before in omega arith) ∙ get_spread w.announced m 0

  pub set_count : (x y : ℕ) → x < z.names → set (flat w) (counts_from z + x) y
      ≡ flat (with_count w x y)
  set_count x y lt = set_behind (spread w.announced) (behind_announced w) (counts_from z) x y before
      ∙ ap (λ l. spread w.announced ++ l) (set-append_left w.counts (behind_counts w) x y (let n =
      sized.counts in omega arith))

  pub get_count : (x : ℕ) → x < z.names → get_or (flat w) (counts_from z + x) 0
      ≡ get_or w.counts x 0
  get_count x lt = get_behind (spread w.announced) (behind_announced w) (counts_from z) x 0 before
      ∙ get_or_append_left w.counts (behind_counts w) 0 x (let n = sized.counts in omega arith)

  pub set_cell : (c y : ℕ) → c < z.cells → set (flat w) (cells_from z + c) y
      ≡ flat (with_cell w c y)
  set_cell c y lt =
      ap (λ (i : ℕ). set (flat w) i y) (place (counts_from z) z.names c)
      ∙ (set_behind (spread w.announced) (behind_announced w) (counts_from z) (z.names
      + (z.names + c)) y before
      ∙ ap (λ l. spread w.announced ++ l) (set_behind w.counts (behind_counts w) z.names (z.names
      + c) y sized.counts
      ∙ ap (λ l. w.counts ++ l)
      (set_behind w.nodes (behind_nodes w) z.names c y sized.nodes
      ∙ ap (λ l. w.nodes ++ l) (set-append_left w.cells (behind_cells w) c y (let n =
      sized.cells in omega arith)))))

  pub get_cell : (c : ℕ) → c < z.cells → get_or (flat w) (cells_from z + c) 0 ≡ get_or w.cells c 0
  get_cell c lt =
      ap (λ (i : ℕ). get_or (flat w) i 0) (place (counts_from z) z.names c)
      ∙ (get_behind (spread w.announced) (behind_announced w) (counts_from z) (z.names
      + (z.names + c)) 0 before
      ∙ (get_behind w.counts (behind_counts w) z.names (z.names + c) 0 sized.counts
      ∙ (get_behind w.nodes (behind_nodes w) z.names c 0 sized.nodes
      ∙ get_or_append_left w.cells (behind_cells w) 0 c (let n = sized.cells in omega arith))))

  pub set_box : (b y : ℕ) → b < 16 * z.workers → set (flat w) (boxes_from z + b) y
      ≡ flat (with_box w b y)
  set_box b y lt =
      ap (λ (i : ℕ). set (flat w) i y) (box_place (counts_from z) z.names z.cells b)
      ∙ (set_behind (spread w.announced) (behind_announced w) (counts_from z) (z.names
      + (z.names + (z.cells + b))) y before
      ∙ ap (λ l. spread w.announced ++ l) (set_behind w.counts (behind_counts w) z.names (z.names
      + (z.cells + b)) y sized.counts
      ∙ ap (λ l. w.counts ++ l) (set_behind w.nodes (behind_nodes w) z.names (z.cells + b) y
      sized.nodes
      ∙ ap (λ l. w.nodes ++ l)
      (set_behind w.cells (behind_cells w) z.cells b y sized.cells
      ∙ ap (λ l. w.cells ++ l) (set-append_left w.boxes (apart w.locks) b y (let n =
      sized.boxes in omega arith))))))

  pub get_box : (b : ℕ) → b < 16 * z.workers → get_or (flat w) (boxes_from z + b) 0
      ≡ get_or w.boxes b 0
  get_box b lt =
      ap (λ (i : ℕ). get_or (flat w) i 0) (box_place (counts_from z) z.names z.cells b)
      ∙ (get_behind (spread w.announced) (behind_announced w) (counts_from z) (z.names
      + (z.names + (z.cells + b))) 0 before
      ∙ (get_behind w.counts (behind_counts w) z.names (z.names + (z.cells + b)) 0 sized.counts
      ∙ (get_behind w.nodes (behind_nodes w) z.names (z.cells + b) 0 sized.nodes
      ∙ (get_behind w.cells (behind_cells w) z.cells b 0 sized.cells
      ∙ get_or_append_left w.boxes (apart w.locks) 0 b (let n = sized.boxes in omega arith)))))

  pub set_node : (x y : ℕ) → x < z.names → set (flat w) (nodes_from z + x) y
      ≡ flat (with_node w x y)
  set_node x y lt =
      ap (λ (i : ℕ). set (flat w) i y) (node_place (counts_from z) z.names x)
      ∙ (set_behind (spread w.announced) (behind_announced w) (counts_from z) (z.names + x) y before
      ∙ ap (λ l. spread w.announced ++ l) (set_behind w.counts (behind_counts w) z.names x y
      sized.counts
      ∙ ap (λ l. w.counts ++ l) (set-append_left w.nodes (behind_nodes w) x y (let n =
      sized.nodes in omega arith))))

  pub get_node : (x : ℕ) → x < z.names → get_or (flat w) (nodes_from z + x) 0 ≡ get_or w.nodes x 0
  get_node x lt =
      ap (λ (i : ℕ). get_or (flat w) i 0) (node_place (counts_from z) z.names x)
      ∙ (get_behind (spread w.announced) (behind_announced w) (counts_from z) (z.names + x) 0 before
      ∙ (get_behind w.counts (behind_counts w) z.names x 0 sized.counts
      ∙ get_or_append_left w.nodes (behind_nodes w) 0 x (let n = sized.nodes in omega arith)))

  pub set_lock : (s y : ℕ) → set (flat w) (locks_from z + 8 * s) y ≡ flat (with_lock w s y)
  set_lock s y =
      ap (λ (i : ℕ). set (flat w) i y) (lock_place (counts_from z) z.names z.cells (16 * z.workers)
      (8 * s))
      ∙ (set_behind (spread w.announced) (behind_announced w) (counts_from z) (z.names
      + (z.names + (z.cells + (16 * z.workers + 8 * s)))) y before
      ∙ ap (λ l. spread w.announced ++ l) (set_behind w.counts (behind_counts w) z.names (z.names
      + (z.cells + (16 * z.workers + 8 * s))) y sized.counts
      ∙ ap (λ l. w.counts ++ l) (set_behind w.nodes (behind_nodes w) z.names (z.cells
      + (16 * z.workers + 8 * s)) y sized.nodes
      ∙ ap (λ l. w.nodes ++ l)
      (set_behind w.cells (behind_cells w) z.cells (16 * z.workers + 8 * s) y sized.cells
      ∙ ap (λ l. w.cells ++ l) (set_behind w.boxes (apart w.locks) (16 * z.workers) (8 * s) y
      sized.boxes ∙ ap (λ l. w.boxes ++ l) (set_apart w.locks s y))))))

  pub get_lock : (s : ℕ) → get_or (flat w) (locks_from z + 8 * s) 0 ≡ get_or w.locks s 0
  get_lock s =
      ap (λ (i : ℕ). get_or (flat w) i 0) (lock_place (counts_from z) z.names z.cells
      (16 * z.workers) (8 * s))
      ∙ (get_behind (spread w.announced) (behind_announced w) (counts_from z) (z.names
      + (z.names + (z.cells + (16 * z.workers + 8 * s)))) 0 before
      ∙ (get_behind w.counts (behind_counts w) z.names (z.names
      + (z.cells + (16 * z.workers + 8 * s))) 0 sized.counts
      ∙ (get_behind w.nodes (behind_nodes w) z.names (z.cells + (16 * z.workers + 8 * s)) 0
      sized.nodes
      ∙ (get_behind w.cells (behind_cells w) z.cells (16 * z.workers + 8 * s) 0 sized.cells
      ∙ get_behind w.boxes (apart w.locks) (16 * z.workers) (8 * s) 0 sized.boxes
      ∙ get_apart w.locks s 0))))
