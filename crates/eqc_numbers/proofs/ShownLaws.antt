-- Words of a graph whose copies are equal.
use Rattle.std.proofs.Common.{◌≡◌, ◌≢◌, ℕ, ◌+◌, ◌<◌, Bool, List, [], ◌∷◌, ◌++◌, length, get_or}
use Rattle.std.proofs.Common.{refl, sym, ◌∙◌, ap, subst, inl, inr, arith}
use Rattle.std.proofs.lemmas.Bool.{cases_eq}
use Rattle.std.proofs.lemmas.List.{get_or_push, get_or_append_left, length_push}
use Rattle.eqc_xag.specs.declared.node.Node.{Node}
use Rattle.eqc_xag.specs.Graph.{Extends, literal_value}
use Rattle.eqc_sweep.specs.Copying.{IsCopyOf}
use Rattle.eqc_sweep.specs.Finding.{AreEqual}
use Rattle.eqc_sums.specs.Adding.{AreEqualWords}
use Rattle.eqc_numbers.specs.Copies.{AreCopiesOf}

pub copies_begin : (old new : List Node) (ls : List ℕ) → AreCopiesOf old new ls []
copies_begin old new ls = record { each = λ k less. absurd (omega arith) }

-- one literal more
pub copies_more : (old new : List Node) (ls cs : List ℕ) (k c : ℕ) → length cs ≡ k
    → AreCopiesOf old new ls cs → IsCopyOf old new (get_or ls k 0) c
    → AreCopiesOf old new ls (cs ++ c ∷ [])
copies_more old new ls cs k c size are is = record {
  each = λ j less. elim (cases_eq j k) [
    | inl e ↦
        let at : get_or (cs ++ c ∷ []) j 0 ≡ c = ap (λ i. get_or (cs ++ c ∷ []) i 0) e
        ∙ get_or_push cs c 0 k size in
        subst (λ l. IsCopyOf old new (get_or ls j 0) l) (sym at)
        (subst (λ i. IsCopyOf old new (get_or ls i 0) c) (sym e) is)
    | inr apart ↦
        let lower : j < length cs = omega (arith, less, apart, size, length_push cs c) in
        subst (λ l. IsCopyOf old new (get_or ls j 0) l)
        (sym (get_or_append_left cs (c ∷ []) 0 j lower)) (are.each j lower)
  ];
}

-- words are equal whose copies are
pub words_back : (old now new : List Node) (ls ms ps qs : List ℕ) → Extends now new
    → AreCopiesOf old now ls ps → AreCopiesOf old now ms qs → length ps ≡ length ls
    → length qs ≡ length ms
    → AreEqualWords new ps qs → AreEqualWords old ls ms
words_back old now new ls ms ps qs extends first second one other equal = record {
  same = sym other ∙ (equal.same ∙ one);
  equal = λ k less. record {
    value = λ a.
        let p = first.each k (omega (arith, less, one)) in
        let q = second.each k (omega (arith, less, one, equal.same)) in
        sym (p.value a)
        ∙ (sym (extends.same (get_or ps k 0) a p.within)
        ∙ ((equal.equal k (omega (arith, less, one))).value a
        ∙ (extends.same (get_or qs k 0) a q.within
        ∙ q.value a)));
  };
}

-- one literal more is equal
pub one_equal_more : (nodes : List Node) (ps qs : List ℕ) (k : ℕ)
    → ((j : ℕ) → j < k → AreEqual nodes (get_or ps j 0) (get_or qs j 0))
    → AreEqual nodes (get_or ps k 0) (get_or qs k 0)
    → (j : ℕ) → j < k + 1 → AreEqual nodes (get_or ps j 0) (get_or qs j 0)
one_equal_more nodes ps qs k so_far now j less = elim (cases_eq j k) [
  | inl e ↦ subst (λ i. AreEqual nodes (get_or ps i 0) (get_or qs i 0)) (sym e) now
  | inr apart ↦ so_far j (omega (arith, less, apart))
]

-- words that are equal to one word are
pub equal_along : (nodes : List Node) (ps qs rs : List ℕ) → AreEqualWords nodes ps qs
    → AreEqualWords nodes qs rs → AreEqualWords nodes ps rs
equal_along nodes ps qs rs p q = record {
  same = q.same ∙ p.same;
  equal = λ k less. record {
    value = λ a. (p.equal k less).value a ∙ (q.equal k (omega (arith, less, p.same))).value a;
  };
}

pub equal_back : (nodes : List Node) (ps qs : List ℕ) → AreEqualWords nodes ps qs
    → AreEqualWords nodes qs ps
equal_back nodes ps qs p = record {
  same = sym p.same;
  equal = λ k less. record { value = λ a. sym ((p.equal k (omega (arith, less, p.same))).value a) };
}
