-- An operation agrees on three names exactly where it agrees on both cofactors at their least
-- variable.
use Rattle.std.proofs.Common.{◌≡◌, ℕ, ◌+◌, ◌-◌, ◌*◌, ◌^◌, ◌<◌, ◌≤◌, List, get_or, eqb, Bool, true}
use Rattle.std.proofs.Common.{false, if◌then◌else◌, min, eq-eqb, ne_eqb, refl, sym, ap, subst, ◌∙◌}
use Rattle.std.proofs.Common.{arith, inl, inr}
use Rattle.std.proofs.lemmas.Bool.{lt-ltb, le-ltb}
use mathlib.Core.Bool.{beq}
use native.Mathlib.Decide.{ℕ_discrete, dec_le}
use Rattle.eqc_tree.specs.Tree.{Tree, False, True, Node, value, StartsAbove, IsOrdered}
use Rattle.eqc_tree.specs.Operation.{operate, tag_of}
use Rattle.eqc_tree.specs.declared.operation.Op.{Op}
use Rattle.eqc_tree.proofs.Uniqueness.{set_at, value-set_at}
use Rattle.eqc_tree.proofs.Tags.{tag_of-injective}
use Rattle.eqc_core.specs.declared.sizes.Sizes.{Sizes}
use Rattle.eqc_core.specs.View.{View}
use Rattle.eqc_core.specs.Words.{Words, variable_of, low_of, high_of, operation_of, first_of}
use Rattle.eqc_core.specs.Words.{second_of, result_of}
use Rattle.eqc_core.specs.Tables.{Homes, IsName}
use Rattle.eqc_core.specs.Trees.{IsTree, variable_at, IsFilled}
use Rattle.eqc_core.specs.Agreement.{Agrees, cofactor}
use Rattle.eqc_core.specs.Lawful.{Lawful}
use Rattle.eqc_core.proofs.Trees.{is_tree_one, tree_there, canonical, low_named, high_named}

pub beq_same : (p q : Bool) → beq p q ≡ true → p ≡ q
beq_same true true e = refl
beq_same true false e = absurd (cc)
beq_same false true e = absurd (cc)
beq_same false false e = refl

pub same_beq : (p q : Bool) → p ≡ q → beq p q ≡ true
same_beq true true e = refl
same_beq true false e = absurd (cc)
same_beq false true e = absurd (cc)
same_beq false false e = refl

-- each variable of the root is v or above
abbrev StartsAt : ℕ → Tree → Type 0
StartsAt v False = Unit {0}
StartsAt v True = Unit {0}
StartsAt v (Node w low high) = v ≤ w

-- the cofactor of a tree where the variable v of its root is b
abbrev cofactor_of : Bool → ℕ → Tree → Tree
cofactor_of b v False = False
cofactor_of b v True = True
cofactor_of b v (Node w l h) = if eqb w v then (if b then h else l) else Node w l h

value-cofactor_of : (b : Bool) (v : ℕ) (t : Tree) (a : ℕ → Bool) → StartsAt v t → IsOrdered t
    → value (cofactor_of b v t) a ≡ value t (set_at a v b)
value-cofactor_of b v False a s o = refl
value-cofactor_of b v True a s o = refl
value-cofactor_of b v (Node w l h) a s o = go b (ℕ_discrete w v)
  where
    go : (b : Bool) → Dec (w ≡ v) → value (if eqb w v then (if b then h else l) else Node w l h) a
        ≡ value (Node w l h) (set_at a v b)
    go true (yes e) = rw (eq-eqb w v e)
        (sym (value-set_at v true h a (subst (λ (k : ℕ). StartsAbove k h) e o.1) o.3))
    go false (yes e) = rw (eq-eqb w v e)
        (sym (value-set_at v false l a (subst (λ (k : ℕ). StartsAbove k l) e o.0) o.2))
    go b (no n) = ap (λ (c : Bool). value (if c then (if b then h else l) else Node w l h) a)
        (ne_eqb w v n) ∙ sym (value-set_at v b (Node w l h) a (let le = s in omega arith) o)

value_by_cofactor : (v : ℕ) (t : Tree) (a : ℕ → Bool) → value t a ≡ value (cofactor_of (a v) v t) a
value_by_cofactor v False a = refl
value_by_cofactor v True a = refl
value_by_cofactor v (Node w l h) a = go (ℕ_discrete w v)
  where
    side : (b : Bool) → a w ≡ b → (if a w then value h a else value l a)
        ≡ value (if b then h else l) a
    side true e = rw e refl
    side false e = rw e refl

    go : Dec (w ≡ v) → (if a w then value h a else value l a)
        ≡ value (if eqb w v then (if a v then h else l) else Node w l h) a
    go (yes e) = rw (eq-eqb w v e) (side (a v) (ap a e))
    go (no n) = rw (ne_eqb w v n) refl

cofactor_of_is : (nodes : List ℕ) (b : Bool) (v x : ℕ) (t : Tree) → v < 2 ^ 16 → IsTree nodes t x
    → IsTree nodes (cofactor_of b v t) (cofactor nodes v b x)
cofactor_of_is nodes b v x False lt is =
    let c : variable_at nodes x ≡ 2 ^ 16 = rw (lt-ltb x 2 (omega arith)) refl in
    rw (ne_eqb (variable_at nodes x) v (λ e. omega arith)) is
cofactor_of_is nodes b v x True lt is =
    let c : variable_at nodes x ≡ 2 ^ 16 = rw (lt-ltb x 2 (omega arith)) refl in
    rw (ne_eqb (variable_at nodes x) v (λ e. omega arith)) is
cofactor_of_is nodes b v x (Node w l h) lt is = go b (ℕ_discrete w v)
  where
    same : variable_at nodes x ≡ w
    same = rw (le-ltb x 2 is.0) is.1

    go : (b : Bool) → Dec (w ≡ v) →
        IsTree nodes (if eqb w v then (if b then h else l) else Node w l h)
        (if eqb (variable_at nodes x) v then (if b then high_of (get_or nodes x 0) else low_of
        (get_or nodes x 0)) else x)
    go true (yes e) = rw (eq-eqb w v e, eq-eqb (variable_at nodes x) v (same ∙ e)) is.3
    go false (yes e) = rw (eq-eqb w v e, eq-eqb (variable_at nodes x) v (same ∙ e)) is.2
    go b (no n) = rw (ne_eqb w v n, ne_eqb (variable_at nodes x) v (λ e. n (sym same ∙ e))) is

starts_at : (nodes : List ℕ) (v x : ℕ) (t : Tree) → IsTree nodes t x → v ≤ variable_at nodes x
    → StartsAt v t
starts_at nodes v x False is le = tt
starts_at nodes v x True is le = tt
starts_at nodes v x (Node w l h) is le = let same : variable_at nodes x ≡ w =
    rw (le-ltb x 2 is.0) is.1 in omega arith

-- a name without variable is a constant
pub is_constant : (nodes : List ℕ) (x : ℕ) → 2 ^ 16 ≤ variable_at nodes x
    → (2 ≤ x → variable_of (get_or nodes x 0) < 2 ^ 16) → x < 2
is_constant nodes x e small = go (dec_le 2 x)
  where
    go : Dec (2 ≤ x) → x < 2
    go (yes two) = absurd (let s = small two in let v : variable_at nodes x
        ≡ variable_of (get_or nodes x 0) = rw (le-ltb x 2 two) refl in omega arith)
    go (no n) = omega arith

constant_value : (nodes : List ℕ) (x : ℕ) (t : Tree) (a : ℕ → Bool) → x < 2 → IsTree nodes t x
    → value t a ≡ eqb x 1
constant_value nodes x False a lt is = sym (ne_eqb x 1 (λ e. omega arith))
constant_value nodes x True a lt is = sym (eq-eqb x 1 is)
constant_value nodes x (Node w l h) a lt is = absurd (let two = is.0 in omega arith)

module _ (z : Sizes) (w : Words) (hs : Homes) (vs : List View) (law : Lawful z w hs vs) where
  pub variable_small : (x : ℕ) → IsName hs vs x → 2 ≤ x → variable_of (get_or w.nodes x 0) < 2 ^ 16
  variable_small x (inl lt) two = absurd (omega arith)
  variable_small x (inr tab) two = let f = (law.tables.shaped x tab).few in let b =
      law.sized.few_variables in omega arith

  -- the cofactors of a name are names
  pub cofactor_named : (v : ℕ) (b : Bool) (x : ℕ) → v < 2 ^ 16 → IsName hs vs x
      → IsName hs vs (cofactor w.nodes v b x)
  cofactor_named v b x lt name = go b name (ℕ_discrete (variable_at w.nodes x) v)
    where
      go : (b : Bool) → IsName hs vs x → Dec (variable_at w.nodes x ≡ v) →
          IsName hs vs (if eqb (variable_at w.nodes x) v then
          (if b then high_of (get_or w.nodes x 0) else low_of (get_or w.nodes x 0)) else x)
      go b name (no n) = rw (ne_eqb (variable_at w.nodes x) v n) name
      go b (inl small) (yes e) = absurd (let c : variable_at w.nodes x ≡ 2 ^ 16 =
          rw (lt-ltb x 2 small) refl in omega arith)
      go true (inr tab) (yes e) = rw (eq-eqb (variable_at w.nodes x) v e) (high_named z w hs vs x
          law tab)
      go false (inr tab) (yes e) = rw (eq-eqb (variable_at w.nodes x) v e) (low_named z w hs vs x
          law tab)

  -- variables rise: a cofactor at the least variable starts later
  pub cofactor_later : (v : ℕ) (b : Bool) (x : ℕ) → v < 2 ^ 16 → IsName hs vs x →
      (variable_at w.nodes x ≤ variable_at w.nodes (cofactor w.nodes v b x))
      × (variable_at w.nodes x ≡ v → v < variable_at w.nodes (cofactor w.nodes v b x))
  cofactor_later v b x lt name = go b name (ℕ_discrete (variable_at w.nodes x) v)
    where
      at : ℕ → ℕ
      at y = variable_at w.nodes y

      go : (b : Bool) → IsName hs vs x → Dec (variable_at w.nodes x ≡ v)
          → (variable_at w.nodes x ≤ variable_at w.nodes (if eqb (variable_at w.nodes x) v then
          (if b then high_of (get_or w.nodes x 0) else low_of (get_or w.nodes x 0)) else x))
          × (variable_at w.nodes x ≡ v
          → v < variable_at w.nodes (if eqb (variable_at w.nodes x) v then
          (if b then high_of (get_or w.nodes x 0) else low_of (get_or w.nodes x 0)) else x))
      go b name (no n) = rw (ne_eqb (variable_at w.nodes x) v n) (omega arith, λ e. absurd (n e))
      go b (inl small) (yes e) = absurd (let c : variable_at w.nodes x ≡ 2 ^ 16 =
          rw (lt-ltb x 2 small) refl in omega arith)
      go true (inr tab) (yes e) = rw (eq-eqb (variable_at w.nodes x) v e)
          (let s = law.tables.shaped x tab in
          let up = s.above_high in
          let same : variable_at w.nodes x ≡ variable_of (get_or w.nodes x 0) =
          rw (le-ltb x 2 (law.tables.named x tab).0) refl in
          (omega arith, λ e. omega arith))
      go false (inr tab) (yes e) = rw (eq-eqb (variable_at w.nodes x) v e)
          (let s = law.tables.shaped x tab in
          let up = s.above_low in
          let same : variable_at w.nodes x ≡ variable_of (get_or w.nodes x 0) =
          rw (le-ltb x 2 (law.tables.named x tab).0) refl in
          (omega arith, λ e. omega arith))

  variable_le : (x : ℕ) → IsName hs vs x → variable_at w.nodes x ≤ 2 ^ 16
  variable_le x name = go (dec_le 2 x)
    where
      go : Dec (2 ≤ x) → variable_at w.nodes x ≤ 2 ^ 16
      go (yes two) = rw (le-ltb x 2 two) (let s = variable_small x name two in omega arith)
      go (no n) = rw (lt-ltb x 2 (omega arith)) (omega arith)

  -- what is left of the variables falls
  pub cofactors_fall : (v : ℕ) (b : Bool) (f g r f' g' r' : ℕ) → v < 2 ^ 16 →
      v ≡ min (min (variable_at w.nodes f) (variable_at w.nodes g)) (variable_at w.nodes r)
      → IsName hs vs f → IsName hs vs g → IsName hs vs r
      → f' ≡ cofactor w.nodes v b f → g' ≡ cofactor w.nodes v b g → r' ≡ cofactor w.nodes v b r
      → 3 * 2 ^ 16 - (variable_at w.nodes f' + (variable_at w.nodes g' + variable_at w.nodes r'))
      < 3 * 2 ^ 16 - (variable_at w.nodes f + (variable_at w.nodes g + variable_at w.nodes r))
  cofactors_fall v b f g r f' g' r' lt is nf ng nr ef eg er =
      let lf = cofactor_later v b f lt nf in
      let lg = cofactor_later v b g lt ng in
      let lr = cofactor_later v b r lt nr in
      let vf = ap (variable_at w.nodes) ef in
      let vg = ap (variable_at w.nodes) eg in
      let vr = ap (variable_at w.nodes) er in
      fall v (variable_at w.nodes f) (variable_at w.nodes g) (variable_at w.nodes r)
      (variable_at w.nodes f') (variable_at w.nodes g')
      (variable_at w.nodes r') lt is (variable_le f nf) (variable_le g ng) (variable_le r nr)
      (let h = lf.0 in omega arith) (let h = lg.0 in omega arith) (let h = lr.0 in omega arith)
      (λ e. let h = lf.1 e in omega arith)
      (λ e. let h = lg.1 e in omega arith) (λ e. let h = lr.1 e in omega arith)
    where
      fall : (v a b c a' b' c' : ℕ) → v < 2 ^ 16 → v ≡ min (min a b) c → a ≤ 2 ^ 16 → b ≤ 2 ^ 16
          → c ≤ 2 ^ 16 → a ≤ a' → b ≤ b' → c ≤ c' → (a ≡ v → v < a') → (b ≡ v → v < b')
          → (c ≡ v → v < c')
          → 3 * 2 ^ 16 - (a' + (b' + c')) < 3 * 2 ^ 16 - (a + (b + c))
      fall v a b c a' b' c' lt is la lb lc pa pb pc qa qb qc =
          pick (ℕ_discrete a v) (ℕ_discrete b v) (ℕ_discrete c v)
        where
          pick : Dec (a ≡ v) → Dec (b ≡ v) → Dec (c ≡ v) → 3 * 2 ^ 16 - (a' + (b' + c'))
              < 3 * 2 ^ 16 - (a + (b + c))
          pick (yes e) q r = let up = qa e in omega arith
          pick (no n) (yes e) r = let up = qb e in omega arith
          pick (no n) (no m) (yes e) = let up = qc e in omega arith
          pick (no n) (no m) (no k) = absurd (omega arith)

  -- what a cofactor's tree says
  cofactor_value : (v : ℕ) (b : Bool) (x : ℕ) (t t' : Tree) (a : ℕ → Bool) → v < 2 ^ 16
      → v ≤ variable_at w.nodes x → IsName hs vs x →
      IsTree w.nodes t x → IsTree w.nodes t' (cofactor w.nodes v b x)
      → value t' a ≡ value t (set_at a v b)
  cofactor_value v b x t t' a lt le name is is' =
      let same : t' ≡ cofactor_of b v t = is_tree_one w.nodes t' (cofactor_of b v t)
      (cofactor w.nodes v b x) is' (cofactor_of_is w.nodes b v x t lt is) in
      ap (λ (k : Tree). value k a) same ∙ value-cofactor_of b v t a (starts_at w.nodes v x t is le)
      (canonical z w hs vs t x law name is).ordered

  pub agrees_cofactors : (op : Op) (v : ℕ) (b : Bool) (f g r : ℕ) → v < 2 ^ 16
      → v ≤ variable_at w.nodes f → v ≤ variable_at w.nodes g →
      v ≤ variable_at w.nodes r → IsName hs vs f → IsName hs vs g → IsName hs vs r
      → Agrees w.nodes op f g r → Agrees w.nodes op (cofactor w.nodes v b f)
      (cofactor w.nodes v b g) (cofactor w.nodes v b r)
  agrees_cofactors op v b f g r lt lf lg lr nf ng nr agrees s' t' u' is it iu a =
      let s = tree_there z w hs vs f law nf in
      let t = tree_there z w hs vs g law ng in
      let u = tree_there z w hs vs r law nr in
      let p = cofactor_value v b f s.0 s' a lt lf nf s.1 is in
      let q = cofactor_value v b g t.0 t' a lt lg ng t.1 it in
      let o = cofactor_value v b r u.0 u' a lt lr nr u.1 iu in
      let e = agrees s.0 t.0 u.0 s.1 t.1 u.1 (set_at a v b) in
      cc

  pub agrees_both : (op : Op) (v f g r : ℕ) → v < 2 ^ 16
      → Agrees w.nodes op (cofactor w.nodes v false f) (cofactor w.nodes v false g)
      (cofactor w.nodes v false r)
      → Agrees w.nodes op (cofactor w.nodes v true f) (cofactor w.nodes v true g)
      (cofactor w.nodes v true r)
      → Agrees w.nodes op f g r
  agrees_both op v f g r lt low high s t u is it iu a = go (a v) refl
    where
      go : (b : Bool) → a v ≡ b → operate op (value s a) (value t a) ≡ value u a
      go false e =
          let p : value s a ≡ value (cofactor_of false v s) a = value_by_cofactor v s a
          ∙ ap (λ (b : Bool). value (cofactor_of b v s) a) e in
          let q : value t a ≡ value (cofactor_of false v t) a = value_by_cofactor v t a
          ∙ ap (λ (b : Bool). value (cofactor_of b v t) a) e in
          let o : value u a ≡ value (cofactor_of false v u) a = value_by_cofactor v u a
          ∙ ap (λ (b : Bool). value (cofactor_of b v u) a) e in
          let h =
          low (cofactor_of false v s) (cofactor_of false v t) (cofactor_of false v u)
          (cofactor_of_is w.nodes false v f s lt is)
          (cofactor_of_is w.nodes false v g t lt it) (cofactor_of_is w.nodes false v r u lt iu) a in
          cc
      go true e =
          let p : value s a ≡ value (cofactor_of true v s) a = value_by_cofactor v s a
          ∙ ap (λ (b : Bool). value (cofactor_of b v s) a) e in
          let q : value t a ≡ value (cofactor_of true v t) a = value_by_cofactor v t a
          ∙ ap (λ (b : Bool). value (cofactor_of b v t) a) e in
          let o : value u a ≡ value (cofactor_of true v u) a = value_by_cofactor v u a
          ∙ ap (λ (b : Bool). value (cofactor_of b v u) a) e in
          let h =
          high (cofactor_of true v s) (cofactor_of true v t) (cofactor_of true v u)
          (cofactor_of_is w.nodes true v f s lt is)
          (cofactor_of_is w.nodes true v g t lt it) (cofactor_of_is w.nodes true v r u lt iu) a in
          cc

  -- on constants
  pub constants_agree : (op : Op) (f g r : ℕ) → f < 2 → g < 2 → r < 2
      → operate op (eqb f 1) (eqb g 1) ≡ eqb r 1 → Agrees w.nodes op f g r
  constants_agree op f g r lf lg lr e s t u is it iu a =
      let p = constant_value w.nodes f s a lf is in
      let q = constant_value w.nodes g t a lg it in
      let o = constant_value w.nodes r u a lr iu in
      cc

  pub agree_constants : (op : Op) (f g r : ℕ) → f < 2 → g < 2 → r < 2 → Agrees w.nodes op f g r
      → operate op (eqb f 1) (eqb g 1) ≡ eqb r 1
  agree_constants op f g r lf lg lr agrees =
      let a : ℕ → Bool = λ _. false in
      let s = tree_there z w hs vs f law (inl lf) in
      let t = tree_there z w hs vs g law (inl lg) in
      let u = tree_there z w hs vs r law (inl lr) in
      let p = constant_value w.nodes f s.0 a lf s.1 in
      let q = constant_value w.nodes g t.0 a lg t.1 in
      let o = constant_value w.nodes r u.0 a lr u.1 in
      let e = agrees s.0 t.0 u.0 s.1 t.1 u.1 a in
      cc

  -- a word is right where its operation is one and agrees
  pub filled_agrees : (word : ℕ) (op : Op) → operation_of word ≡ tag_of op → IsFilled w.nodes word
      → Agrees w.nodes op (first_of word) (second_of word) (result_of word)
  filled_agrees word op has f s t u is it iu a =
      let same = tag_of-injective f.operation op (sym f.tag ∙ has) in
      let p = is_tree_one w.nodes s f.first (first_of word) is f.first_is in
      let q = is_tree_one w.nodes t f.second (second_of word) it f.second_is in
      let o = is_tree_one w.nodes u f.result (result_of word) iu f.result_is in
      let e = f.right a in
      cc

  pub agrees_filled : (word : ℕ) (op : Op) → operation_of word ≡ tag_of op
      → IsName hs vs (first_of word) → IsName hs vs (second_of word) → IsName hs vs (result_of word)
      → Agrees w.nodes op (first_of word) (second_of word) (result_of word) → IsFilled w.nodes word
  agrees_filled word op has nf ng nr agrees =
      let s = tree_there z w hs vs (first_of word) law nf in
      let t = tree_there z w hs vs (second_of word) law ng in
      let u = tree_there z w hs vs (result_of word) law nr in
      record {
        operation = op;
        tag = has;
        first = s.0;
        second = t.0;
        result = u.0;
        first_is = s.1;
        second_is = t.1;
        result_is = u.1;
        right = agrees s.0 t.0 u.0 s.1 t.1 u.1;
      }
