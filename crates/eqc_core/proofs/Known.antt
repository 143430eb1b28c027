-- What a lawful state says of the names that views and cells have.
use Rattle.std.proofs.Common.{◌≡◌, ℕ, ◌+◌, ◌<◌, ◌≤◌, List, [], get_or, Bool, true, false, refl, ap}
use Rattle.std.proofs.Common.{◌∙◌, arith, ⊎_elim}
use mathlib.Core.Option.{some}
use lib.ListN.{get_elem?}
use Rattle.eqc_core.specs.declared.sizes.Sizes.{Sizes}
use Rattle.eqc_core.specs.declared.phase.Phase.TheVariants.{Confirmed}
use Rattle.eqc_core.specs.View.{View, unused, spent}
use Rattle.eqc_core.specs.Words.{Words, word_at, times}
use Rattle.eqc_core.specs.Tables.{Homes}
use Rattle.eqc_core.specs.Owners.{owned}
use Rattle.eqc_core.specs.Lawful.{Lawful}
use Rattle.eqc_core.specs.Facts.{AreTabled}
use Rattle.eqc_core.proofs.Sums.{at_le_sum}
use Rattle.eqc_core.proofs.Names.{times-nil}
use Rattle.eqc_core.proofs.Counting.{known_tabled}
use Rattle.eqc_core.proofs.Tables.{has_le, owned_is, owned_tabled, held_tabled, in_box_tabled}
use Rattle.eqc_core.proofs.Tables.{in_cell_tabled, supported_tabled, child_tabled, table_tabled}

module _ (z : Sizes) (w : Words) (hs : Homes) (vs : List View) (law : Lawful z w hs vs) where
  -- a view that is not active has no names
  pub inactive_has_none : (id x : ℕ) (v : View) → get_elem? vs id ≡ some v → v.active ≡ false
      → times x v.held + times x v.retired ≡ 0
  inactive_has_none id x v at off = ⊎_elim
      (λ (q : v ≡ unused). ap (λ (u : View). times x u.held + times x u.retired) q ∙ none)
      (λ (q : v ≡ spent). ap (λ (u : View). times x u.held + times x u.retired) q ∙ none)
      (law.seated.inactive id v at off)
    where
      none : times x [] + times x [] ≡ 0
      none = omega (arith, times-nil x)

  -- a constant is neither held nor retired
  slot : (id x : ℕ) (v : View) → get_elem? vs id ≡ some v → 0 < times x v.held + times x v.retired
      → (b : Bool) → v.active ≡ b → 2 ≤ x
  slot id x v at has true on = (law.views id v at on).slots x has
  slot id x v at has false off = absurd (let none = inactive_has_none id x v at off in omega arith)

  -- what views and cells name is tabled
  pub are_tabled : AreTabled w hs vs
  are_tabled = record {
    held = λ id x v at has. held_tabled z w hs vs law id x v at (slot id x v at (omega arith)
        v.active refl) has;
    retired = λ id x v at has. owned_tabled z w hs vs law id x v at (slot id x v at (omega arith)
        v.active refl) (omega (arith, owned_is x v));
    confirmed = λ id k x v at on is. let f = law.views id v at on in
        supported_tabled z w hs vs law (word_at z id k) x (f.named k (Confirmed x) is).0
        (f.support k x is);
    supported = λ i x two is. supported_tabled z w hs vs law i x two is;
    read = λ id v r at on is. let h = ((law.views id v at on).read r is).held_still in
        held_tabled z w hs vs law id r.name v at (slot id r.name v at (omega arith) v.active refl)
        h;
    known = λ id x v at on two knows. known_tabled z w hs vs id v law at on x two knows;
    cells = λ c x word at two named. in_cell_tabled z w hs vs law c x word at two named;
    boxes = λ b x word at two named. in_box_tabled z w hs vs law b x word at two named;
    entries = λ s t i e is at. let h = has_le t i e at in
        omega (arith, table_tabled hs vs s t e.1 is);
    children = λ x y tab two child. child_tabled z w hs vs law x y tab two child;
  }

  -- a held name is an owner, so it is counted
  pub held_counted : (id x : ℕ) (v : View) → get_elem? vs id ≡ some v → 0 < times x v.held
      → 0 < get_or w.counts x 0
  held_counted id x v at has =
      let two = slot id x v at (omega arith) v.active refl in
      let there = (law.tables.named x (held_tabled z w hs vs law id x v at two has)).1 in
      omega (arith, law.counted.counts x two there, at_le_sum (owned x) vs id v at, owned_is x v)
