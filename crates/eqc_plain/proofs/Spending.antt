-- Turns that are left.
use Rattle.std.proofs.Common.{◌≡◌, ℕ, ◌≤◌, Option, None, Some, sym, ap, subst, arith}
use Rattle.eqc_plain.specs.Spending.{AtMost, Spends, IsSpent}

pub spends_refl : (t : Option ℕ) → Spends t t
spends_refl t = record { endless = λ e. e; left = λ n h. h }

pub spends_trans : {a b c : Option ℕ} → Spends a b → Spends b c → Spends a c
spends_trans p q = record {
  endless = λ e. q.endless (p.endless e);
  left =
      λ n h. q.left n (p.left n h);
}

-- the same number is left
pub spends_as : (a b : Option ℕ) → b ≡ a → Spends a b
spends_as a b is = subst (Spends a) (sym is) (spends_refl a)

-- the same number is left afterwards
pub spends_then : {a b c : Option ℕ} → Spends a b → c ≡ b → Spends a c
spends_then {a} s is = subst (Spends a) (sym is) s

none_left : (t : Option ℕ) → AtMost 0 t → IsSpent t
none_left None h = absurd h
none_left (Some left) h = ap Some (omega (arith, h))

-- what is spent stays so
pub spent_stays : (a b : Option ℕ) → Spends a b → IsSpent a → IsSpent b
spent_stays a b s e = let none : 0 ≤ 0 = omega arith in
    none_left b (s.left 0 (subst (AtMost 0) (sym e) none))
