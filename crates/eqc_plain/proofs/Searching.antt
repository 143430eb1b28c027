-- What a search for the least assignment keeps: marks of numbers that lead to true, a way to true,
-- and the choices.
use Rattle.std.proofs.Common.{◌≡◌, ℕ, zero, suc, ◌+◌, ◌-◌, ◌<◌, ◌≤◌, Bool, true, false, cond, List}
use Rattle.std.proofs.Common.{length, get_or, set, Option, None, Some, refl, sym, ◌∙◌, ap, arith}
use Rattle.std.proofs.Common.{inl, inr, true≢false}
use Rattle.std.proofs.lemmas.Bool.{cases_lt, cases_eq}
use Rattle.std.proofs.lemmas.List.{get_or-set_same, get_or-set_other, get_or_past, length-set}
use Rattle.eqc_tree.specs.Tree.{value}
use Rattle.eqc_tree.specs.Assigned.{IsSatisfiable}
use Rattle.eqc_plain.specs.Store.{variable_of, low_of, high_of, tree_at, root, IsStore}
use Rattle.eqc_plain.specs.Searching.{Agrees, given, leads_by, rises_by, AreMarked, IsBranch}
use Rattle.eqc_plain.specs.Searching.{IsChoice}
use Rattle.eqc_plain.proofs.Trees.{tree_at-zero, tree_at-one, tree_at-node, root-node, root_below}

-- a node doesn't lead to true where no child does that an assignment may go to
leads_nowhere : (o : Option Bool) (l h v x y : Bool) → ((b : Bool) → o ≡ Some b → v ≡ b)
    → leads_by o l h ≡ false → (l ≡ false → x ≡ false) → (h ≡ false → y ≡ false)
    → cond v y x ≡ false
leads_nowhere None true h v x y agrees e low high = absurd (true≢false e)
leads_nowhere None false h true x y agrees e low high = high e
leads_nowhere None false h false x y agrees e low high = low refl
leads_nowhere (Some true) l h v x y agrees e low high = rw (agrees true refl) (high e)
leads_nowhere (Some false) l h v x y agrees e low high = rw (agrees false refl) (low e)

-- the child that a way goes to is marked
pub leads_on : (o : Option Bool) (l h : Bool) → leads_by o l h ≡ true → cond (rises_by o l) h l
    ≡ true
leads_on None true h e = refl
leads_on None false h e = e
leads_on (Some true) l h e = e
leads_on (Some false) l h e = e

-- a constant that is not marked is false
constant_dead : (ws : List ℕ) (choices : List (Option Bool)) (marks : List Bool) (n x : ℕ) (a : ℕ
    → Bool) → x < 2 → AreMarked ws choices marks n →
    get_or marks x false ≡ false → value (tree_at ws x) a ≡ false
constant_dead ws choices marks n zero a h marked e = ap (λ t. value t a) (tree_at-zero ws)
constant_dead ws choices marks n (suc zero) a h marked e = absurd (true≢false (sym marked.at_true
    ∙ e))
constant_dead ws choices marks n (suc (suc x)) a h marked e = absurd (omega arith)

-- a constant that is marked is true
constant_live : (ws : List ℕ) (choices : List (Option Bool)) (marks : List Bool) (n x : ℕ) (a : ℕ
    → Bool) → x < 2 → AreMarked ws choices marks n →
    get_or marks x false ≡ true → value (tree_at ws x) a ≡ true
constant_live ws choices marks n zero a h marked e = absurd (true≢false (sym e ∙ marked.at_false))
constant_live ws choices marks n (suc zero) a h marked e = ap (λ t. value t a) (tree_at-one ws)
constant_live ws choices marks n (suc (suc x)) a h marked e = absurd (omega arith)

-- values make a number's function what they make the function of f, as far as the variables above
-- decide that
abbrev pub IsWay : ℕ → List ℕ → (f x : ℕ) → List Bool → Type 0
IsWay variables ws f x values = (a : ℕ → Bool) → ((v : ℕ) → v < root variables (tree_at ws x)
    → a v ≡ given values v) → value (tree_at ws f) a ≡ value (tree_at ws x) a

-- what is known at the number x on a way from f
pub record IsOnWay (variables : ℕ) (ws : List ℕ) (choices : List (Option Bool)) (marks : List Bool)
    (f x : ℕ) (values : List Bool) : Type 0 where
  pub long : length values ≡ variables
  pub within : x ≤ f
  pub marked : get_or marks x false ≡ true
  pub agrees : Agrees choices (given values)
  pub way : IsWay variables ws f x values

-- at a constant that is marked the way has reached true
pub way_ends : (variables : ℕ) (ws : List ℕ) (choices : List (Option Bool))
    (marks values : List Bool) (n f x : ℕ) → x < 2 →
    AreMarked ws choices marks n → get_or marks x false ≡ true → IsWay variables ws f x values
    → value (tree_at ws f) (given values) ≡ true
way_ends variables ws choices marks values n f x h marked e way =
    way (given values) (λ v less. refl) ∙ constant_live ws choices marks n x (given values) h marked
    e

module _ {variables limit : ℕ} {ws counts : List ℕ} (s : IsStore variables limit ws counts) where
  dead_upto : (choices : List (Option Bool)) (marks : List Bool) (n m x : ℕ) (a : ℕ → Bool) → x < m
      → x < n → n ≤ length ws + 2 →
      AreMarked ws choices marks n → Agrees choices a → get_or marks x false ≡ false
      → value (tree_at ws x) a ≡ false
  dead_upto choices marks n zero x a h less within marked agrees e = absurd (omega arith)
  dead_upto choices marks n (suc m) x a h less within marked agrees e =
      elim (cases_lt x 2) [
        | inl low ↦ constant_dead ws choices marks n x a low marked e
        | inr high ↦
            let w : ℕ = get_or ws (x - 2) 0 in
            let p = s.shape (x - 2) (omega arith) in
            ap (λ t. value t a) (tree_at-node s x high (omega arith))
            ∙ leads_nowhere (get_or choices (variable_of w) None) (get_or marks (low_of w) false)
            (get_or marks (high_of w) false)
            (a (variable_of w)) (value (tree_at ws (low_of w)) a) (value (tree_at ws (high_of w)) a)
            (agrees (variable_of w))
            (sym (marked.nodes x high less) ∙ e)
            (dead_upto choices marks n m (low_of w) a (omega (arith, p.low)) (omega (arith, p.low))
            within marked agrees)
            (dead_upto choices marks n m (high_of w) a (omega (arith, p.high))
            (omega (arith, p.high)) within marked agrees)
      ]

  -- a number that is not marked is false under each assignment that agrees
  pub dead : (choices : List (Option Bool)) (marks : List Bool) (n x : ℕ) (a : ℕ → Bool) → x < n
      → n ≤ length ws + 2 →
      AreMarked ws choices marks n → Agrees choices a → get_or marks x false ≡ false
      → value (tree_at ws x) a ≡ false
  dead choices marks n x a less within marked agrees e = dead_upto choices marks n (suc x) x a
      (omega arith) less within marked agrees e

  -- the fields of a node's word are its branch
  pub is_branch : (x v l h : ℕ) → 2 ≤ x → x < length ws + 2 → v ≡ variable_of (get_or ws (x - 2) 0)
      → l ≡ low_of (get_or ws (x - 2) 0) →
      h ≡ high_of (get_or ws (x - 2) 0) → IsBranch variables ws x v l h
  is_branch x v l h two within ev el eh =
      let p = s.shape (x - 2) (omega arith) in
      record {
        variable = ev;
        low_child = el;
        high_child = eh;
        below = omega (arith, root-node s x two within, root_below s x two within);
        low_less = omega (arith, p.low);
        high_less = omega (arith, p.high);
      }

  -- one number more is marked
  pub marks_more : (choices : List (Option Bool)) (marks : List Bool) (x v l h : ℕ) (b : Bool)
      → 2 ≤ x → x < length marks → x < length ws + 2 →
      IsBranch variables ws x v l h → b ≡ leads_by (get_or choices v None) (get_or marks l false)
      (get_or marks h false) →
      AreMarked ws choices marks x → AreMarked ws choices (set marks x b) (x + 1)
  marks_more choices marks x v l h b two long within branch e marked = record {
    at_false = get_or-set_other marks x 0 b false (λ z. omega arith) ∙ marked.at_false;
    at_true = get_or-set_other marks x 1 b false (λ z. omega arith) ∙ marked.at_true;
    nodes = λ y high less.
        let w : ℕ = get_or ws (y - 2) 0 in
        let p = s.shape (y - 2) (omega arith) in
        let low : get_or (set marks x b) (low_of w) false ≡ get_or marks (low_of w) false =
        get_or-set_other marks x (low_of w) b false (λ z. omega (arith, p.low)) in
        let up : get_or (set marks x b) (high_of w) false ≡ get_or marks (high_of w) false =
        get_or-set_other marks x (high_of w) b false (λ z. omega (arith, p.high)) in
        let same : leads_by (get_or choices (variable_of w) None) (get_or (set marks x b) (low_of w)
        false)
        (get_or (set marks x b) (high_of w) false) ≡ leads_by (get_or choices (variable_of w) None)
        (get_or marks (low_of w) false)
        (get_or marks (high_of w) false) =
        rw (low, up) refl in
        elim (cases_eq y x) [
          | inl z ↦
              let is : b ≡ leads_by (get_or choices (variable_of w) None) (get_or marks (low_of w)
              false) (get_or marks (high_of w) false) =
              rw z (e ∙ (rw (branch.variable, branch.low_child, branch.high_child) refl)) in
              ap (λ k. get_or (set marks x b) k false) z ∙ get_or-set_same marks x b false long ∙ is
              ∙ sym same
          | inr z ↦ get_or-set_other marks x y b false z ∙ marked.nodes y high (omega arith)
              ∙ sym same
        ];
  }

  -- the way goes on to a child
  pub way_more : (f x v l h : ℕ) (values : List Bool) (up : Bool) → 2 ≤ x → x < length ws + 2
      → length values ≡ variables →
      IsBranch variables ws x v l h → IsWay variables ws f x values
      → IsWay variables ws f (cond up h l) (set values v up)
  way_more f x v l h values up two within long branch way a same =
      let w : ℕ = get_or ws (x - 2) 0 in
      let p = s.shape (x - 2) (omega arith) in
      let top : root variables (tree_at ws x) ≡ v = root-node s x two within ∙ sym branch.variable
      in
      let at_low : v < root variables (tree_at ws l) = rw (branch.variable, branch.low_child)
      p.above_low in
      let at_high : v < root variables (tree_at ws h) = rw (branch.variable, branch.high_child)
      p.above_high in
      let above : v < root variables (tree_at ws (cond up h l)) = child up at_low at_high in
      let here : a v ≡ up = same v above
      ∙ get_or-set_same values v up false (omega (arith, branch.below)) in
      let others : (u : ℕ) → u < root variables (tree_at ws x) → a u ≡ given values u =
      λ u less. same u (omega arith) ∙ get_or-set_other values v u up false (λ z. omega arith) in
      let node : value (tree_at ws x) a ≡ cond (a v) (value (tree_at ws h) a)
      (value (tree_at ws l) a) =
      ap (λ t. value t a) (tree_at-node s x two within)
      ∙ (rw (sym branch.variable, sym branch.low_child, sym branch.high_child) refl) in
      way a others ∙ node ∙ ap (λ b. cond b (value (tree_at ws h) a) (value (tree_at ws l) a)) here
      ∙ whole up
    where
      child : (b : Bool) → v < root variables (tree_at ws l) → v < root variables (tree_at ws h)
          → v < root variables (tree_at ws (cond b h l))
      child true at_low at_high = at_high
      child false at_low at_high = at_low

      whole : (b : Bool) → cond b (value (tree_at ws h) a) (value (tree_at ws l) a)
          ≡ value (tree_at ws (cond b h l)) a
      whole true = refl
      whole false = refl

-- the constants are marked first
pub marks_start : (ws : List ℕ) (choices : List (Option Bool)) (marks : List Bool)
    → 1 < length marks → AreMarked ws choices (set (set marks 0 false) 1 true) 2
marks_start ws choices marks long = record {
  at_false = get_or-set_other (set marks 0 false) 1 0 true false (λ z. omega arith)
      ∙ get_or-set_same marks 0 false false (omega arith);
  at_true = get_or-set_same (set marks 0 false) 1 true false
      (omega (arith, length-set marks 0 false));
  nodes = λ x two less. absurd (omega arith);
}

-- values that agree still do with the value that a way gives a variable
pub agrees_rising : (choices : List (Option Bool)) (values : List Bool) (v : ℕ) (low b : Bool)
    → v < length values →
    b ≡ rises_by (get_or choices v None) low → Agrees choices (given values)
    → Agrees choices (given (set values v b))
agrees_rising choices values v low b long is agrees u c e =
    elim (cases_eq u v) [
      | inl z ↦
          let at : get_or choices v None ≡ Some c = ap (λ k. get_or choices k None) (sym z) ∙ e in
          ap (λ k. get_or (set values v b) k false) z ∙ get_or-set_same values v b false long ∙ is
          ∙ ap (λ o. rises_by o low) at
      | inr z ↦ get_or-set_other values v u b false z ∙ agrees u c e
    ]

-- the values of the choices agree with them
pub started_agrees : (choices : List (Option Bool)) (values : List Bool)
    → ((u : ℕ) → u < length choices → given values u ≡ rises_by (get_or choices u None) true)
    → Agrees choices (given values)
started_agrees choices values started u b e =
    elim (cases_lt u (length choices)) [
      | inl less ↦ started u less ∙ ap (λ o. rises_by o true) e
      | inr past ↦ let none = get_or_past choices u None past in cc
    ]

-- one value more is that of its choice
pub started_more : (choices : List (Option Bool)) (values : List Bool) (n : ℕ) (b : Bool)
    → n < length values →
    b ≡ rises_by (get_or choices n None) true
    → ((u : ℕ) → u < n → given values u ≡ rises_by (get_or choices u None) true) → (u : ℕ)
    → u < n + 1 →
    given (set values n b) u ≡ rises_by (get_or choices u None) true
started_more choices values n b long is started u less =
    elim (cases_eq u n) [
      | inl z ↦ ap (λ k. get_or (set values n b) k false) z ∙ get_or-set_same values n b false long
          ∙ is ∙ ap (λ k. rises_by (get_or choices k None) true) (sym z)
      | inr z ↦ get_or-set_other values n u b false z ∙ started u (omega arith)
    ]

-- a variable gets its value, and gets it once more
pub is_choice : (choices : List (Option Bool)) (v : ℕ) (b : Bool) → v < length choices
    → IsChoice v b choices (set choices v (Some b))
is_choice choices v b long = record {
  here = get_or-set_same choices v (Some b) None long;
  others = λ u z. get_or-set_other choices v u (Some b) None z;
}

pub is_choice_again : (choices : List (Option Bool)) (v : ℕ) (b c : Bool) → v < length choices
    → IsChoice v b choices (set (set choices v (Some c)) v (Some b))
is_choice_again choices v b c long = record {
  here = get_or-set_same (set choices v (Some c)) v (Some b) None
      (omega (arith, length-set choices v (Some c)));
  others = λ u z. get_or-set_other (set choices v (Some c)) v u (Some b) None z
      ∙ get_or-set_other choices v u (Some c) None z;
}

-- what agrees with one choice more
pub agrees_more : (v : ℕ) (b : Bool) (old new : List (Option Bool)) (a : ℕ → Bool)
    → IsChoice v b old new → Agrees old a → a v ≡ b → Agrees new a
agrees_more v b old new a choice agrees at u c e =
    elim (cases_eq u v) [
      | inl z ↦
          let here : get_or new u None ≡ Some b = ap (λ k. get_or new k None) z ∙ choice.here in
          let same : b ≡ c = cc in
          ap a z ∙ at ∙ same
      | inr z ↦ agrees u c (sym (choice.others u z) ∙ e)
    ]

pub agrees_less : (v : ℕ) (b : Bool) (old new : List (Option Bool)) (a : ℕ → Bool)
    → IsChoice v b old new → get_or old v None ≡ None → Agrees new a → Agrees old a
agrees_less v b old new a choice free agrees u c e =
    elim (cases_eq u v) [
      | inl z ↦ let none : get_or old u None ≡ None = ap (λ k. get_or old k None) z ∙ free in cc
      | inr z ↦ agrees u c (choice.others u z ∙ e)
    ]

-- a function that is true somewhere is not that of number 0
pub some_number : (ws : List ℕ) (f : ℕ) → IsSatisfiable (value (tree_at ws f)) → 1 ≤ f
some_number ws zero satisfiable = absurd (satisfiable (λ a. ap (λ t. value t a) (tree_at-zero ws)))
some_number ws (suc f) satisfiable = omega arith

module _ {variables limit : ℕ} {ws counts : List ℕ} (s : IsStore variables limit ws counts) where
  -- a function that is true somewhere is marked where nothing is chosen
  pub root_marked : (choices : List (Option Bool)) (marks : List Bool) (f : ℕ) → f < length ws + 2
      → AreMarked ws choices marks (f + 1) →
      ((v : ℕ) → get_or choices v None ≡ None) → IsSatisfiable (value (tree_at ws f))
      → get_or marks f false ≡ true
  root_marked choices marks f within marked free satisfiable = by (get_or marks f false) refl
    where
      by : (b : Bool) → get_or marks f false ≡ b → b ≡ true
      by true e = refl
      by false e = absurd (satisfiable (λ a. dead s choices marks (f + 1) f a (omega arith)
          (omega arith) marked (λ v b is. let none = free v in cc) e))

  -- the way goes on to a marked child
  pub way_goes_on : (choices : List (Option Bool)) (marks : List Bool) (f x v l h : ℕ)
      (values : List Bool) (o : Option Bool) (low up : Bool)
      → 2 ≤ x → f < length ws + 2 → IsBranch variables ws x v l h
      → AreMarked ws choices marks (f + 1) → o ≡ get_or choices v None
      → low ≡ get_or marks l false → up ≡ rises_by o low
      → IsOnWay variables ws choices marks f x values
      → IsOnWay variables ws choices marks f (cond up h l) (set values v up)
  way_goes_on choices marks f x v l h values o low up two within branch marked is_o is_low is_up
      on =
      let rising : up ≡ rises_by (get_or choices v None) (get_or marks l false) = is_up
      ∙ (rw (is_o, is_low) refl) in
      let inside : v < length values = omega (arith, on.long, branch.below) in
      let leads : leads_by (get_or choices v None) (get_or marks l false) (get_or marks h false)
      ≡ true =
      (rw (branch.variable, branch.low_child, branch.high_child)
      (sym (marked.nodes x two (omega (arith, on.within))))) ∙ on.marked in
      record {
        long = length-set values v up ∙ on.long;
        within = child_within up;
        marked = child_marked up ∙ ap (λ b. cond b (get_or marks h false) (get_or marks l false))
            rising ∙ leads_on (get_or choices v None) (get_or marks l false) (get_or marks h false)
            leads;
        agrees = agrees_rising choices values v (get_or marks l false) up inside rising on.agrees;
        way = way_more s f x v l h values up two (omega (arith, on.within)) on.long branch on.way;
      }
    where
      child_within : (b : Bool) → cond b h l ≤ f
      child_within true = omega (arith, branch.high_less, on.within)
      child_within false = omega (arith, branch.low_less, on.within)

      child_marked : (b : Bool) → get_or marks (cond b h l) false ≡ cond b (get_or marks h false)
          (get_or marks l false)
      child_marked true = refl
      child_marked false = refl
