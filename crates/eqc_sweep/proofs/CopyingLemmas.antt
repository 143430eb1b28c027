-- Tables of the literals that nodes have in another graph.
use Rattle.std.proofs.Common.{◌≡◌, ℕ, ◌+◌, ◌*◌, ◌/◌, ◌%◌, ◌<◌, ◌≤◌, Bool, true, false, List, []}
use Rattle.std.proofs.Common.{◌∷◌, ◌++◌, length, get_or, set, replicate, Option, Some, None, IfSome}
use Rattle.std.proofs.Common.{refl, sym, ◌∙◌, ap, inl, inr, arith, eqb-true, eqb}
use Rattle.std.proofs.lemmas.Bool.{cases_eq, cases_lt, eqb-false}
use Rattle.std.proofs.lemmas.List.{get_or-set_same, get_or-set_other, get_or-replicate, get_or_past}
use Rattle.std.proofs.lemmas.List.{length-replicate}
use Rattle.eqc_xag.specs.declared.node.Node.{Node}
use Rattle.eqc_xag.specs.Graph.{differ, literal_value, node_value, Extends}
use Rattle.eqc_xag.proofs.GraphLemmas.{extends_itself, extends_along}
use Rattle.eqc_sweep.specs.Sweeping.{HasValue}
use Rattle.eqc_sweep.specs.Copying.{copy_of, AreCopies, IsCopyOf, IsCopyOfNode}
use Rattle.eqc_sweep.proofs.GateLemmas.{plain_value, complement_value}

of_node : (nodes : List Node) (a : ℕ → Bool) (l : ℕ) (sign : Bool) → sign ≡ eqb (l % 2) 1
    → literal_value nodes a l ≡ differ sign (literal_value nodes a (2 * (l / 2)))
of_node nodes a l true odd = complement_value nodes a l (l / 2) refl (eqb-true (l % 2) 1 (sym odd))
of_node nodes a l false even = plain_value nodes a l (l / 2) refl (eqb-false (l % 2) 1 (sym even))

-- the literal of a copied node, or its complement, is a copy of a literal of the node
pub copied_literal : (old new : List Node) (table : List (Option ℕ)) (l k c r : ℕ) (sign : Bool)
    → AreCopies old new table → k ≡ l / 2 → copy_of table k ≡ Some c
    → sign ≡ eqb (l % 2) 1 → r / 2 ≡ c / 2 → ((nodes : List Node) (a : ℕ → Bool)
    → literal_value nodes a r ≡ differ sign (literal_value nodes a c)) → IsCopyOf old new l r
copied_literal old new table l k c r sign are at there odd node value =
    let has = are.each k c there in
    record {
      within = omega (arith, has.within, node);
      value = λ a.
          value new a
          ∙ (ap (differ sign) (has.value a)
          ∙ (ap (λ (i : ℕ). differ sign (literal_value old a (2 * i))) at
          ∙ sym (of_node old a l sign odd)));
    }

-- literals stay what they are in a graph that goes on
copies_stay : (old now new : List Node) (table : List (Option ℕ)) → Extends now new
    → AreCopies old now table → AreCopies old new table
copies_stay old now new table more are = record {
  each = λ k c is. (let h = are.each k c is in
      record {
        within = omega (arith, h.within, more.longer);
        value = λ a. more.same c a h.within
            ∙ h.value a;
      });
}

-- a copy of what a node says is a copy of the node
pub copy_of_node : (old new : List Node) (n : Node) (k : ℕ) (x : Option ℕ)
    → ((a : ℕ → Bool) → literal_value old a (2 * k) ≡ node_value a (literal_value old a) n)
    → IfSome x (IsCopyOfNode old new n) → IfSome x (IsCopyOf old new (2 * k))
copy_of_node old new n k (Some c) says has = record {
  within = has.within;
  value = λ a. has.value a
      ∙ sym (says a);
}
copy_of_node old new n k None says has = has

-- a table gets the literal of a node, or none, in a graph that goes on
pub copies_set : (old first now : List Node) (table more : List (Option ℕ)) (k : ℕ) (x : Option ℕ)
    → AreCopies old first table → Extends first now
    → IfSome x (IsCopyOf old now (2 * k)) → k < length table → more ≡ set table k x
    → AreCopies old now more
copies_set old first now table more k x are extends value inside is = rw is (record {
  each = λ i l there. elim (cases_eq i k) [
    | inl same ↦ rw same (some x l value (sym (get_or-set_same table k x None inside)
        ∙ (ap (copy_of (set table k x)) (sym same) ∙ there)))
    | inr apart ↦ (copies_stay old first now table extends are).each i l
        (sym (get_or-set_other table k i x None apart) ∙ there)
  ];
})
  where
    some : (x : Option ℕ) (l : ℕ) → IfSome x (IsCopyOf old now (2 * k)) → x ≡ Some l
        → IsCopyOf old now (2 * k) l
    some (Some m) l value same = (let e : m ≡ l = cc in rw (← e) value)
    some None l value same = absurd (let q = same in cc)

-- a table without literals
pub copies_none : (old new : List Node) (table : List (Option ℕ)) (n : ℕ) → table ≡ replicate n None
    → AreCopies old new table
copies_none old new table n is = let nothing : Option ℕ = None in rw is (record {
  each = λ k c there. absurd (let none : None ≡ Some c = sym (elim (cases_lt k n) [
    | inl inside ↦ get_or-replicate n k None None inside
    | inr past ↦ get_or_past (replicate n None) k None
        (omega (arith, past, length-replicate n nothing))
  ]) ∙ there in cc);
})

-- some nodes have entered
pub record IsEntering (old first now : List Node) (table : List (Option ℕ)) : Type 0 where
  pub extends : Extends first now
  pub copies : AreCopies old now table

pub entering_begins : (old nodes : List Node) (table : List (Option ℕ)) → AreCopies old nodes table
    → IsEntering old nodes nodes table
entering_begins old nodes table are = record { extends = extends_itself nodes; copies = are }

pub entering_more : (old first now new : List Node) (table more : List (Option ℕ))
    → IsEntering old first now table → Extends now new
    → AreCopies old new more → IsEntering old first new more
entering_more old first now new table more is extends are =
    record { extends = extends_along first now new is.extends extends; copies = are }
