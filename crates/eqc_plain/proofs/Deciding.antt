use Rattle.std.proofs.Common.{◌≡◌, ◌≢◌, ℕ, zero, suc, ◌<◌, ◌≤◌, Bool, true, false, cond, not}
use Rattle.std.proofs.Common.{nat_eq, refl, sym, ◌∙◌, ap, arith, ◌⊎◌, inl, inr}
use Rattle.std.proofs.lemmas.Bool.{false≢true, eq-eqb, ne_eqb}
use Rattle.eqc_tree.specs.Operation.{operate}
use Rattle.eqc_tree.specs.declared.operation.Op.{Op}
use Rattle.eqc_tree.specs.declared.operation.Op.TheVariants.{And, Or, Xor, AndNot}
use Rattle.eqc_plain.specs.Terminal.{Decides}

-- no operation is its first operand
no_first : (op : Op) → ((a b : Bool) → a ≡ operate op a b) → ⊥
no_first And e = false≢true (sym (e true false))
no_first Or e = false≢true (e false true)
no_first Xor e = false≢true (e false true)
no_first AndNot e = false≢true (sym (e true true))

-- nor its second
no_second : (op : Op) → ((a b : Bool) → b ≡ operate op a b) → ⊥
no_second And e = false≢true (sym (e false true))
no_second Or e = false≢true (e true false)
no_second Xor e = false≢true (e true false)
no_second AndNot e = false≢true (sym (e false true))

-- nor a constant
no_constant : (op : Op) (d : Bool) → ((a b : Bool) → d ≡ operate op a b) → ⊥
no_constant And false e = false≢true (e true true)
no_constant And true e = false≢true (sym (e false false))
no_constant Or false e = false≢true (e true true)
no_constant Or true e = false≢true (sym (e false false))
no_constant Xor false e = false≢true (e true false)
no_constant Xor true e = false≢true (sym (e false false))
no_constant AndNot false e = false≢true (e true false)
no_constant AndNot true e = false≢true (sym (e false false))

-- no value is its own negation, and a constant is none
no_negation : (d : Bool) → ((b : Bool) → d ≡ not b) → ⊥
no_negation false e = false≢true (e false)
no_negation true e = false≢true (sym (e true))

-- f says a, g says b, and the constants what they are
chosen : (f g : ℕ) (a b : Bool) → ℕ → Bool
chosen f g a b n = cond (nat_eq n f) a (cond (nat_eq n g) b (nat_eq n 1))

chosen_first : (f g : ℕ) (a b : Bool) → chosen f g a b f ≡ a
unfolding chosen
chosen_first f g a b = rw (eq-eqb f f refl) refl

chosen_second : (f g : ℕ) (a b : Bool) → f ≢ g → chosen f g a b g ≡ b
unfolding chosen
chosen_second f g a b n = rw (ne_eqb g f (λ e. n (sym e)), eq-eqb g g refl) refl

chosen_constant : (f g : ℕ) (a b : Bool) (x : ℕ) → x < 2 → 2 ≤ f → 2 ≤ g → chosen f g a b x
    ≡ nat_eq x 1
unfolding chosen
chosen_constant f g a b x h two_f two_g = rw (
  ne_eqb x f (λ e. absurd (omega arith)),
  ne_eqb x g (λ e. absurd (omega arith)),
) refl

-- two nodes that differ decide nothing
pub two_nodes : (op : Op) (f g x : ℕ) → 2 ≤ f → 2 ≤ g → f ≢ g → Decides op f g x → ⊥
two_nodes op f g x two_f two_g n d =
    let r : (a b : Bool) →
    chosen f g a b x ≡ operate op a b = λ a b. d.right (chosen f g a b) (chosen_constant f g a b 0
    (omega arith) two_f two_g) (chosen_constant f g a b 1 (omega arith) two_f two_g)
    ∙ rw (chosen_first f g a b, chosen_second f g a b n) refl in
    elim d.among [
      | inl e ↦ no_first op (λ a b. sym (ap (chosen f g a b) e ∙ chosen_first f g a b) ∙ r a b)
      | inr s ↦ elim s [
        | inl e ↦ no_second op (λ a b. sym (ap (chosen f g a b) e ∙ chosen_second f g a b n)
            ∙ r a b)
        | inr h ↦ no_constant op (nat_eq x 1) (λ a b. sym (chosen_constant f g a b x h two_f two_g)
            ∙ r a b)
      ]
    ]

-- nothing that is a node or a constant is the negation of the node
negation : (g x : ℕ) → 2 ≤ g → (x ≡ g) ⊎ (x < 2) → ((b : Bool) → chosen g g b b x ≡ not b) → ⊥
negation g x two (inl e) r = let h : true ≡ false = sym (ap (chosen g g true true) e
    ∙ chosen_first g g true true) ∙ r true in false≢true (sym h)
negation g x two (inr e) r =
    no_negation (nat_eq x 1) (λ b. sym (chosen_constant g g b b x e two two) ∙ r b)

xor_true : (b : Bool) → operate Xor b true ≡ not b
xor_true true = refl
xor_true false = refl

-- true and a node decide no exclusive or
pub true_and_node : (g x : ℕ) → 2 ≤ g → Decides Xor 1 g x → ⊥
true_and_node g x two d =
    let c : (b : Bool) → chosen g g b b 1 ≡ true = λ b. chosen_constant g g b b 1 (omega arith) two
    two in
    let r : (b : Bool) → chosen g g b b x ≡ not b =
    λ b. d.right (chosen g g b b) (chosen_constant g g b b 0 (omega arith) two two) (c b)
    ∙ rw (c b, chosen_first g g b b) refl in
    elim d.among [
      | inl e ↦ negation g x two (inr (omega arith)) r
      | inr s ↦ negation g x two s r
    ]

pub node_and_true : (f x : ℕ) → 2 ≤ f → Decides Xor f 1 x → ⊥
node_and_true f x two d =
    let c : (b : Bool) → chosen f f b b 1 ≡ true = λ b. chosen_constant f f b b 1 (omega arith) two
    two in
    let r : (b : Bool) → chosen f f b b x ≡ not b =
    λ b. d.right (chosen f f b b) (chosen_constant f f b b 0 (omega arith) two two) (c b)
    ∙ (rw (c b, chosen_first f f b b) refl ∙ xor_true b) in
    elim d.among [
      | inl e ↦ negation f x two (inl e) r
      | inr s ↦ elim s [
        | inl e ↦ negation f x two (inr (omega arith)) r
        | inr h ↦
            negation f x two (inr h) r
      ]
    ]

-- nor what is in the one and not in the other
pub true_without_node : (g x : ℕ) → 2 ≤ g → Decides AndNot 1 g x → ⊥
true_without_node g x two d =
    let c : (b : Bool) → chosen g g b b 1 ≡ true = λ b. chosen_constant g g b b 1 (omega arith) two
    two in
    let r : (b : Bool) → chosen g g b b x ≡ not b =
    λ b. d.right (chosen g g b b) (chosen_constant g g b b 0 (omega arith) two two) (c b)
    ∙ rw (c b, chosen_first g g b b) refl in
    elim d.among [
      | inl e ↦ negation g x two (inr (omega arith)) r
      | inr s ↦ negation g x two s r
    ]

-- an exclusive or of what differs, and is not false, is decided by nothing
pub xor_undecided : (f g x : ℕ) → f ≢ g → 0 < f → 0 < g → Decides Xor f g x → ⊥
xor_undecided (suc zero) (suc zero) x n a b d = n refl
xor_undecided (suc zero) (suc (suc g)) x n a b d = true_and_node (suc (suc g)) x (omega arith) d
xor_undecided (suc (suc f)) (suc zero) x n a b d = node_and_true (suc (suc f)) x (omega arith) d
xor_undecided (suc (suc f)) (suc (suc g)) x n a b d = two_nodes Xor (suc (suc f)) (suc (suc g)) x
    (omega arith) (omega arith) n d
xor_undecided zero g x n a b d = absurd (omega arith)
xor_undecided (suc f) zero x n a b d = absurd (omega arith)

-- and so is a node that is to be left out of something else
pub and_not_undecided : (f g x : ℕ) → f ≢ g → 0 < f → 2 ≤ g → Decides AndNot f g x → ⊥
and_not_undecided (suc zero) g x n a b d = true_without_node g x b d
and_not_undecided (suc (suc f)) g x n a b d = two_nodes AndNot (suc (suc f)) g x (omega arith) b n d
and_not_undecided zero g x n a b d = absurd (omega arith)
