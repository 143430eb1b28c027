use Rattle.std.proofs.Common.{◌≡◌, ℕ, ◌<◌, Bool, true, false, cond, refl, ◌∙◌, arith, ◌⊎◌, inl, inr}
use Rattle.eqc_tree.specs.Operation.{operate}
use Rattle.eqc_tree.specs.declared.operation.Op.{Op}
use Rattle.eqc_plain.specs.Meaning.{Meaning}
use Rattle.eqc_plain.specs.Combining.{IsResult, AreHalves, IsWhole, IsExpansion, HasBoth}
use Rattle.eqc_plain.specs.Terminal.{Decides, AreOperands}

choose : (op : Op) (b f g x y z w : Bool) → f ≡ cond b y x → g ≡ cond b w z
    → cond b (operate op y w) (operate op x z) ≡ operate op f g
choose op true f g x y z w e d = let P = operate op in cc
choose op false f g x y z w e d = let P = operate op in cc

-- a number that is there under m is there under n, and means the same
pub record Stays (m n : Meaning) : Type 1 where
  pub variables : n.variables ≡ m.variables
  pub there : (x : ℕ) → m.there x → n.there x
  pub root : (x : ℕ) → m.there x → n.root x ≡ m.root x
  pub says : (x : ℕ) (a : ℕ → Bool) → m.there x → n.says x a ≡ m.says x a

pub stays : (m : Meaning) → Stays m m
stays m = record { variables = refl; there = λ x h. h; root = λ x h. refl; says = λ x a h. refl }

pub stays_trans : {l m n : Meaning} → Stays l m → Stays m n → Stays l n
stays_trans p q =
    record {
      variables = q.variables ∙ p.variables;
      there = λ x h. q.there x (p.there x h);
      root = λ x h. q.root x (p.there x h) ∙ p.root x h;
      says = λ x a h. q.says x a (p.there x h) ∙ p.says x a h;
    }

-- the operation on both pairs of cofactors, under one node
pub combined : (m : Meaning) (op : Op) (v f g low high x : ℕ) → HasBoth m op f g v low high
    → IsWhole m v low high x → IsResult m op f g x
combined m op v f g low high x b n =
    let h = b.expansion in
    record {
      first = h.first;
      second = h.second;
      within = n.within;
      above = λ w below hf hg. omega (arith, n.root_at, h.top w hf hg);
      function = λ a. n.function a
          ∙ (rw (b.low_right.function a, b.high_right.function a) (choose op (a v) _ _ _ _ _ _
          (h.cofactors_f.function a) (h.cofactors_g.function a)));
    }

-- what a node over both results asks for
pub record Fits (m : Meaning) (f g v low high : ℕ) : Type 0 where
  pub first : m.there f
  pub second : m.there g
  pub below : v < m.variables
  pub low_within : m.there low
  pub high_within : m.there high
  pub above_low : v < m.root low
  pub above_high : v < m.root high

pub both_fit : {m : Meaning} {op : Op} {f g v low high : ℕ} → HasBoth m op f g v low high
    → Fits m f g v low high
both_fit {m} {op} {f} {g} {v} {low} {high} b =
    let h = b.expansion in
    record {
      first = h.first;
      second = h.second;
      below = h.below;
      low_within = b.low_right.within;
      high_within = b.high_right.within;
      above_low = b.low_right.above v h.below h.cofactors_f.above_low h.cofactors_g.above_low;
      above_high = b.high_right.above v h.below h.cofactors_f.above_high h.cofactors_g.above_high;
    }

-- a result stays one
pub result_stays : {m n : Meaning} {op : Op} {f g x : ℕ} → Stays m n → IsResult m op f g x
    → IsResult n op f g x
result_stays {m} {n} {op} {f} {g} {x} s r =
    record {
      first = s.there f r.first;
      second = s.there g r.second;
      within = s.there x r.within;
      above = λ v. rw (s.variables, s.root f r.first, s.root g r.second, s.root x r.within)
          (r.above v);
      function = λ a. rw (s.says f a r.first, s.says g a r.second, s.says x a r.within)
          (r.function a);
    }

-- cofactors stay cofactors
pub halves_stay : {m n : Meaning} {v x low high : ℕ} → Stays m n → m.there x
    → AreHalves m v x low high → AreHalves n v x low high
halves_stay {m} {n} {v} {x} {low} {high} s h c =
    record {
      low_within = s.there low c.low_within;
      high_within = s.there high c.high_within;
      above_low = rw (s.root low c.low_within) c.above_low;
      above_high = rw (s.root high c.high_within) c.above_high;
      function = λ a. rw (s.says x a h, s.says low a c.low_within, s.says high a c.high_within)
          (c.function a);
    }

-- an expansion stays one
pub expansion_stays : {m n : Meaning} {v f g f0 f1 g0 g1 : ℕ} → Stays m n
    → IsExpansion m v f g f0 f1 g0 g1 → IsExpansion n v f g f0 f1 g0 g1
expansion_stays {m} {n} {v} {f} {g} s h =
    record {
      first = s.there f h.first;
      second = s.there g h.second;
      below = rw s.variables h.below;
      cofactors_f = halves_stay s h.first h.cofactors_f;
      cofactors_g = halves_stay s h.second h.cofactors_g;
      top = λ w. rw (s.root f h.first, s.root g h.second) (h.top w);
    }

-- both results stay results
pub both_stay : {m n : Meaning} {op : Op} {f g v low high : ℕ} → Stays m n
    → HasBoth m op f g v low high → HasBoth n op f g v low high
both_stay s b = record {
  f0 = b.f0;
  f1 = b.f1;
  g0 = b.g0;
  g1 = b.g1;
  expansion =
      expansion_stays s b.expansion;
  low_right = result_stays s b.low_right;
  high_right =
      result_stays s b.high_right;
}

-- 0 and 1 are the constants, which start below all variables
pub record HasConstants (m : Meaning) : Type 0 where
  pub there : (x : ℕ) → x < 2 → m.there x
  pub root : (x : ℕ) → x < 2 → m.root x ≡ m.variables
  pub zero_says : (a : ℕ → Bool) → m.says 0 a ≡ false
  pub one_says : (a : ℕ → Bool) → m.says 1 a ≡ true

-- a result among the operands and the constants
module _ {m : Meaning} (s : HasConstants m) where
  among_within : (f g x : ℕ) → m.there f → m.there g → (x ≡ f) ⊎ ((x ≡ g) ⊎ (x < 2)) → m.there x
  among_within f g x p q (inl e) = rw e p
  among_within f g x p q (inr (inl e)) = rw e q
  among_within f g x p q (inr (inr e)) = s.there x e

  among_above : (f g x v : ℕ) → (x ≡ f) ⊎ ((x ≡ g) ⊎ (x < 2)) → v < m.variables → v < m.root f
      → v < m.root g → v < m.root x
  among_above f g x v (inl e) h p q = rw e p
  among_above f g x v (inr (inl e)) h p q = rw e q
  among_above f g x v (inr (inr e)) h p q = omega (arith, s.root x e)

  -- what is decided is right
  pub decided : (op : Op) (f g x : ℕ) → m.there f → m.there g → Decides op f g x
      → IsResult m op f g x
  decided op f g x p q d =
      record {
        first = p;
        second = q;
        within = among_within f g x p q d.among;
        above = λ v. among_above f g x v d.among;
        function = λ a. d.right (λ n. m.says n a) (s.zero_says a) (s.one_says a);
      }

swapped : (m : Meaning) (op : Op) (f g x : ℕ) → ((a b : Bool) → operate op a b ≡ operate op b a)
    → IsResult m op g f x → IsResult m op f g x
swapped m op f g x e r = record {
  first = r.second;
  second = r.first;
  within = r.within;
  above =
      λ v h a b. r.above v h b a;
  function = λ a. r.function a ∙ e _ _;
}

-- a result for operands that may have changed places
pub from_ordered : (m : Meaning) (op : Op) (f g p q x : ℕ) → AreOperands op f g p q
    → IsResult m op p q x → IsResult m op f g x
from_ordered m op f g p q x (inl e) r = rw (← e.0, ← e.1) r
from_ordered m op f g p q x (inr e) r = swapped m op f g x e.2 (rw (← e.0, ← e.1) r)

-- and the other way round
pub to_ordered : (m : Meaning) (op : Op) (f g p q x : ℕ) → AreOperands op f g p q
    → IsResult m op f g x → IsResult m op p q x
to_ordered m op f g p q x (inl e) r = rw (e.0, e.1) r
to_ordered m op f g p q x (inr e) r = rw (e.0, e.1) (swapped m op g f x e.2 r)
