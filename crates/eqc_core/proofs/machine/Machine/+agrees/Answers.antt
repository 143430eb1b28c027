use Rattle.std.proofs.Common.{◌≡◌, ℕ, ◌^◌, ◌<◌, ◌≤◌, Bool, true, false, min, refl, sym, subst, ◌∙◌}
use Rattle.std.proofs.Common.{eqb, arith}
use Rattle.eqc_core.specs.Tables.{IsName}
use Rattle.eqc_core.specs.Trees.{variable_at}
use Rattle.eqc_core.specs.Agreement.{Agrees, cofactor}
use Rattle.eqc_core.specs.Machine.{state_of}
use Rattle.eqc_core.proofs.Cofactors.{beq_same, same_beq, is_constant, variable_small}
use Rattle.eqc_core.proofs.Cofactors.{cofactor_named, cofactors_fall, agrees_cofactors, agrees_both}
use Rattle.eqc_core.proofs.Cofactors.{constants_agree, agree_constants}
use Rattle.eqc_core.proofs.machine.Machine.+agrees.Goals as goal

pub agrees-requires : goal.agrees-requires
agrees-requires t c =
    let m = c.args.self.now in
    let s = state_of m in
    let law = c.requires.kept.lawful in
    let v = c.min-v.result in
    let lt : v < 2 ^ 16 = let h = c.if-v-ge-NO_VARIABLE.false in omega arith in
    let is : v ≡ min (min (variable_at m.nodes.items c.args.f) (variable_at m.nodes.items c.args.g))
    (variable_at m.nodes.items c.args.r) =
    (let a = c.variable.ensures in let b = c.variable-2.ensures in let d = c.variable-3.ensures in
    let e = c.min.ensures in let f = c.min-v.ensures in cc) in
    let fall =
    cofactors_fall s.sizes s.words s.homes s.views law v false c.args.f c.args.g c.args.r
    c.cofactor-f_low.result c.cofactor-g_low.result
    c.cofactor-r_low.result lt is c.requires.f c.requires.g c.requires.r c.cofactor-f_low.ensures
    c.cofactor-g_low.ensures
    c.cofactor-r_low.ensures in
    let name : (x y : ℕ) → IsName s.homes s.views x → y ≡ cofactor m.nodes.items v false x
    → IsName s.homes s.views y =
    λ x y n e. subst (λ (k : ℕ). IsName s.homes s.views k) (sym e) (cofactor_named s.sizes s.words
    s.homes s.views law v false x lt n) in (
      omega arith,
      (
        c.requires.kept,
        (
          name c.args.f c.cofactor-f_low.result c.requires.f c.cofactor-f_low.ensures,
          (
            name c.args.g c.cofactor-g_low.result c.requires.g c.cofactor-g_low.ensures,
            name c.args.r c.cofactor-r_low.result c.requires.r c.cofactor-r_low.ensures,
          ),
        ),
      ),
    )

pub agrees-requires-2 : goal.agrees-requires-2
agrees-requires-2 t c =
    let m = c.args.self.now in
    let s = state_of m in
    let law = c.requires.kept.lawful in
    let v = c.min-v.result in
    let lt : v < 2 ^ 16 = let h = c.if-v-ge-NO_VARIABLE.false in omega arith in
    let is : v ≡ min (min (variable_at m.nodes.items c.args.f) (variable_at m.nodes.items c.args.g))
    (variable_at m.nodes.items c.args.r) =
    (let a = c.variable.ensures in let b = c.variable-2.ensures in let d = c.variable-3.ensures in
    let e = c.min.ensures in let f = c.min-v.ensures in cc) in
    let fall =
    cofactors_fall s.sizes s.words s.homes s.views law v true c.args.f c.args.g c.args.r
    c.cofactor-f_high.result c.cofactor-g_high.result
    c.cofactor-r_high.result lt is c.requires.f c.requires.g c.requires.r c.cofactor-f_high.ensures
    c.cofactor-g_high.ensures
    c.cofactor-r_high.ensures in
    let name : (x y : ℕ) → IsName s.homes s.views x → y ≡ cofactor m.nodes.items v true x
    → IsName s.homes s.views y =
    λ x y n e. subst (λ (k : ℕ). IsName s.homes s.views k) (sym e) (cofactor_named s.sizes s.words
    s.homes s.views law v true x lt n) in (
      omega arith,
      (
        c.requires.kept,
        (
          name c.args.f c.cofactor-f_high.result c.requires.f c.cofactor-f_high.ensures,
          (
            name c.args.g c.cofactor-g_high.result c.requires.g c.cofactor-g_high.ensures,
            name c.args.r c.cofactor-r_high.result c.requires.r c.cofactor-r_high.ensures,
          ),
        ),
      ),
    )

pub returns-then-v-ge-NO_VARIABLE : goal.returns-then-v-ge-NO_VARIABLE
returns-then-v-ge-NO_VARIABLE t c =
    let m = c.args.self.now in
    let s = state_of m in
    let law = c.requires.kept.lawful in
    let nodes = m.nodes.items in
    let top = c.if-v-ge-NO_VARIABLE.true in
    let a = c.variable.ensures in
    let b = c.variable-2.ensures in
    let d = c.variable-3.ensures in
    let e = c.min.ensures in
    let g = c.min-v.ensures in
    let small : (x : ℕ) → IsName s.homes s.views x → 2 ^ 16 ≤ variable_at nodes x → x < 2 =
    λ x n big. is_constant nodes x big (variable_small s.sizes s.words s.homes s.views law x n)
    in
    let f_small = small c.args.f c.requires.f (omega arith) in
    let g_small = small c.args.g c.requires.g (omega arith) in
    let r_small = small c.args.r c.requires.r (omega arith) in (
      (λ h. constants_agree s.sizes s.words s.homes s.views law c.args.op c.args.f c.args.g c.args.r
          f_small g_small r_small (sym c.compute.ensures
          ∙ beq_same c.compute.result (eqb c.args.r 1) h)),
      (λ agrees.
          same_beq c.compute.result (eqb c.args.r 1) (c.compute.ensures
          ∙ agree_constants s.sizes s.words s.homes s.views law c.args.op c.args.f c.args.g
          c.args.r f_small g_small r_small agrees)),
    )

pub returns-then-not-agrees : goal.returns-then-not-agrees
returns-then-not-agrees t c =
    let m = c.args.self.now in
    let s = state_of m in
    let law = c.requires.kept.lawful in
    let nodes = m.nodes.items in
    let v = c.min-v.result in
    let a = c.variable.ensures in
    let b = c.variable-2.ensures in
    let d = c.variable-3.ensures in
    let e = c.min.ensures in
    let g = c.min-v.ensures in
    let lt : v < 2 ^ 16 = let h = c.if-v-ge-NO_VARIABLE.false in omega arith in
    let le_f : v ≤ variable_at nodes c.args.f = omega arith in
    let le_g : v ≤ variable_at nodes c.args.g = omega arith in
    let le_r : v ≤ variable_at nodes c.args.r = omega arith in
    let same : (x y p q k l : ℕ) → x ≡ p → y ≡ q → k ≡ l → Agrees nodes c.args.op x y k
    → Agrees nodes c.args.op p q l =
    λ x y p q k l e f g h. subst (λ (n : ℕ). Agrees nodes c.args.op n q l) e
    (subst (λ (n : ℕ). Agrees nodes c.args.op x n l) f
    (subst (λ (n : ℕ). Agrees nodes c.args.op x y n) g h)) in
    let cofactors : (b : Bool) → Agrees nodes c.args.op c.args.f c.args.g c.args.r
    → Agrees nodes c.args.op (cofactor nodes v b c.args.f) (cofactor nodes v b c.args.g)
    (cofactor nodes v b c.args.r) =
    λ b h. agrees_cofactors s.sizes s.words s.homes s.views law c.args.op v b c.args.f c.args.g
    c.args.r lt le_f le_g le_r c.requires.f c.requires.g c.requires.r h in (
      (λ h. absurd (cc)),
      (λ h. c.if-not-agrees.ensures.1 (same _ _ _ _ _ _ (sym c.cofactor-f_low.ensures)
          (sym c.cofactor-g_low.ensures) (sym c.cofactor-r_low.ensures) (cofactors false h))),
    )

pub returns : goal.returns
returns t c =
    let m = c.args.self.now in
    let s = state_of m in
    let law = c.requires.kept.lawful in
    let nodes = m.nodes.items in
    let v = c.min-v.result in
    let a = c.variable.ensures in
    let b = c.variable-2.ensures in
    let d = c.variable-3.ensures in
    let e = c.min.ensures in
    let g = c.min-v.ensures in
    let lt : v < 2 ^ 16 = let h = c.if-v-ge-NO_VARIABLE.false in omega arith in
    let le_f : v ≤ variable_at nodes c.args.f = omega arith in
    let le_g : v ≤ variable_at nodes c.args.g = omega arith in
    let le_r : v ≤ variable_at nodes c.args.r = omega arith in
    let same : (x y p q k l : ℕ) → x ≡ p → y ≡ q → k ≡ l → Agrees nodes c.args.op x y k
    → Agrees nodes c.args.op p q l =
    λ x y p q k l e f g h. subst (λ (n : ℕ). Agrees nodes c.args.op n q l) e
    (subst (λ (n : ℕ). Agrees nodes c.args.op x n l) f
    (subst (λ (n : ℕ). Agrees nodes c.args.op x y n) g h)) in
    let cofactors : (b : Bool) → Agrees nodes c.args.op c.args.f c.args.g c.args.r
    → Agrees nodes c.args.op (cofactor nodes v b c.args.f) (cofactor nodes v b c.args.g)
    (cofactor nodes v b c.args.r) =
    λ b h. agrees_cofactors s.sizes s.words s.homes s.views law c.args.op v b c.args.f c.args.g
    c.args.r lt le_f le_g le_r c.requires.f c.requires.g c.requires.r h in
    let low : Agrees nodes c.args.op (cofactor nodes v false c.args.f) (cofactor nodes v false
    c.args.g) (cofactor nodes v false c.args.r) =
    same _ _ _ _ _ _ c.cofactor-f_low.ensures c.cofactor-g_low.ensures c.cofactor-r_low.ensures
    (c.if-not-agrees.ensures.0 refl) in (
      (λ h.
          agrees_both s.sizes s.words s.homes s.views law c.args.op v c.args.f c.args.g c.args.r lt
          low
          (same _ _ _ _ _ _ c.cofactor-f_high.ensures c.cofactor-g_high.ensures
          c.cofactor-r_high.ensures (c.agrees-2.ensures.0 h))),
      (λ h. c.agrees-2.ensures.1 (same _ _ _ _ _ _ (sym c.cofactor-f_high.ensures)
          (sym c.cofactor-g_high.ensures) (sym c.cofactor-r_high.ensures) (cofactors true h))),
    )
