-- Numbers of signals while they are found, and what they say of two netlists.
use Rattle.std.proofs.Common.{◌≡◌, ◌⊎◌, ℕ, ◌+◌, ◌<◌, ◌≤◌, Bool, false, List, length, get_or, set}
use Rattle.std.proofs.Common.{sym, ◌∙◌, ap, subst, arith, inl, inr}
use Rattle.std.proofs.lemmas.List.{get_or-set_same, get_or-set_other}
use Rattle.std.proofs.lemmas.Bool.{cases_eq}
use Rattle.std.proofs.Math.ListN.{length-set}
use Rattle.eqc_netlist.specs.Graph.{FlatOf, IsFlat, FollowsDrivers, driver_at, dependencies}
use Rattle.eqc_netlist.proofs.EvaluationLaws.{dep_before, step_of}
use Rattle.eqc_strash.specs.Structure.{Structure, constant, driver_structure, structure_of}
use Rattle.eqc_strash.specs.Classes.{ClassesOf, TellStructures, AreClasses, HaveOneValue}
use Rattle.eqc_strash.specs.Classes.{HaveOneValueEach, inputs_under}
use Rattle.eqc_strash.specs.Shapes.{structure_at}
use Rattle.eqc_strash.specs.Tables.{AreApart, Grows, Stands}
use Rattle.eqc_strash.specs.Numbering.{AreNumbered, AreNumbers, said_by}
use Rattle.eqc_strash.proofs.KeyLaws.{stands_still}
use Rattle.eqc_strash.proofs.StructureLaws.{driver_structure_alike, structure_follows}
use Rattle.eqc_strash.proofs.ValueLaws.{equal_values}

-- what a step's signal depends on has its number
dep_known : (f : FlatOf) (variables : List ℕ) (structures : List Structure) (numbers : List ℕ)
    (k c : ℕ) → IsFlat f
    → k < length f.steps → AreNumbered f variables structures numbers k
    → c < length (dependencies (driver_at f (get_or f.steps k 0)))
    → Stands (constant false) structures
    (get_or numbers (get_or (dependencies (driver_at f (get_or f.steps k 0))) c 0) 0)
    (structure_of f variables (get_or (dependencies (driver_at f (get_or f.steps k 0))) c 0))
dep_known f variables structures numbers k c h inside known within =
    let w = dep_before f k c h inside within in
    subst (λ d. Stands (constant false) structures (get_or numbers d 0) (structure_of f variables
    d)) w.2 (known.each w.0 w.1)

pub deps_known : (f : FlatOf) (variables : List ℕ) (structures : List Structure) (numbers : List ℕ)
    (k : ℕ) → IsFlat f
    → k < length f.steps → AreNumbered f variables structures numbers k → (c : ℕ)
    → c < length (dependencies (driver_at f (get_or f.steps k 0)))
    → get_or numbers (get_or (dependencies (driver_at f (get_or f.steps k 0))) c 0) 0
    < length structures
deps_known f variables structures numbers k h inside known c within =
    (dep_known f variables structures numbers k c h inside known within).within

-- one signal more
pub numbered_more : (f : FlatOf) (variables : List ℕ) (structures new : List Structure)
    (numbers : List ℕ) (k n class : ℕ)
    → IsFlat f → k < length f.steps → AreNumbered f variables structures numbers k
    → Grows (constant false) structures new n
    → Stands (constant false) new class (driver_structure f.rows variables
    (said_by structures numbers) (driver_at f (get_or f.steps k 0)))
    → AreNumbered f variables new (set numbers (get_or f.steps k 0) class) (k + 1)
numbered_more f variables structures new numbers k n class h inside known g stands = record {
  size = length-set numbers s class ∙ known.size;
  each = λ i less. by i less (cases_eq i k);
}
  where
    s : ℕ
    s = get_or f.steps k 0

    now : Stands (constant false) new class (structure_of f variables s)
    now = record {
      within = stands.within;
      at = stands.at
          ∙ (driver_structure_alike f.rows variables (said_by structures numbers)
          (structure_of f variables) (driver_at f s)
          (λ c within. (dep_known f variables structures numbers k c h inside known within).at)
          ∙ sym (structure_follows f variables s h (h.steps_within k inside)));
    }

    here : get_or (set numbers s class) s 0 ≡ class
    here = get_or-set_same numbers s class 0 (omega (arith, known.size, h.steps_within k inside))

    by : (i : ℕ) → i < k + 1 → (i ≡ k) ⊎ (i ≡ k → ⊥)
        → Stands (constant false) new (get_or (set numbers s class) (get_or f.steps i 0) 0)
        (structure_of f variables (get_or f.steps i 0))
    by i less (inl e) =
        let there : Stands (constant false) new (get_or (set numbers s class) s 0)
        (structure_of f variables s) =
        subst (λ c. Stands (constant false) new c (structure_of f variables s)) (sym here) now in
        subst (λ j. Stands (constant false) new (get_or (set numbers s class) (get_or f.steps j 0)
        0) (structure_of f variables (get_or f.steps j 0))) (sym e) there
    by i less (inr other) =
        let before : i < k = omega (arith, less, other) in
        let apart : get_or f.steps i 0 ≡ s
        → ⊥ = λ same. other (h.once i k (omega (arith, before, inside)) inside same) in
        let old = stands_still (constant false) structures new n
        (get_or numbers (get_or f.steps i 0) 0) (structure_of f variables (get_or f.steps i 0))
        g (known.each i before) in
        subst (λ c. Stands (constant false) new c (structure_of f variables (get_or f.steps i 0)))
        (sym (get_or-set_other numbers s (get_or f.steps i 0) class 0 apart)) old

-- all signals
pub numbered_all : (f : FlatOf) (variables : List ℕ) (structures : List Structure)
    (numbers : List ℕ) (k : ℕ) → IsFlat f
    → k ≡ length f.steps → AreNumbered f variables structures numbers k
    → AreNumbers f variables structures numbers
numbered_all f variables structures numbers k h all known = record {
  size = known.size;
  each = λ s inside.
      let w = step_of f s h inside in
      subst (λ t. Stands (constant false) structures (get_or numbers t 0) (structure_of f variables
      t)) w.2 (known.each w.0 (omega (arith, w.1, all)));
}

pub numbers_still : (f : FlatOf) (variables : List ℕ) (structures new : List Structure)
    (numbers : List ℕ) (n : ℕ)
    → Grows (constant false) structures new n → AreNumbers f variables structures numbers
    → AreNumbers f variables new numbers
numbers_still f variables structures new numbers n g h = record {
  size = h.size;
  each = λ s inside. stands_still (constant false) structures new n (get_or numbers s 0)
      (structure_of f variables s) g (h.each s inside);
}

-- ---- two netlists

tell : (f g : FlatOf) (variables others : List ℕ) (structures : List Structure)
    (numbers more : List ℕ)
    → AreApart (constant false) structures → AreNumbers f variables structures numbers
    → AreNumbers g others structures more
    → TellStructures (structure_of f variables) (structure_of g others) numbers more
tell f g variables others structures numbers more apart h i = record {
  no_other = λ s t inside within same.
      let here = h.each s (omega (arith, inside, h.size)) in
      let there = i.each t (omega (arith, within, i.size)) in
      sym here.at ∙ (ap (structure_at structures) same ∙ there.at);
  all = λ s t inside within same.
      let here = h.each s (omega (arith, inside, h.size)) in
      let there = i.each t (omega (arith, within, i.size)) in
      apart.apart (get_or numbers s 0) (get_or more t 0) here.within there.within (here.at
      ∙ (same ∙ sym there.at));
}

pub are_classes : (f g : FlatOf) (variables others : List ℕ) (structures : List Structure)
    (numbers more : List ℕ) (count : ℕ)
    → AreApart (constant false) structures → count ≡ length structures → length structures
    ≤ length f.drivers + length g.drivers
    → AreNumbers f variables structures numbers → AreNumbers g others structures more
    → AreClasses f g variables others (record { first = numbers; second = more; count = count })
are_classes f g variables others structures numbers more count apart counted few h i = record {
  first_size = h.size;
  second_size = i.size;
  first_within = λ s inside. let here = h.each s (omega (arith, inside, h.size)) in
      omega (arith, here.within, counted);
  second_within = λ t within. let there = i.each t (omega (arith, within, i.size)) in
      omega (arith, there.within, counted);
  few = omega (arith, few, counted);
  in_first = tell f f variables variables structures numbers numbers apart h h;
  in_second = tell g g others others structures more more apart i i;
  across = tell f g variables others structures numbers more apart h i;
}

one_value : (f g : FlatOf) (variables others numbers more : List ℕ) (a : ℕ → Bool) → IsFlat f
    → FollowsDrivers f → IsFlat g
    → FollowsDrivers g → length numbers ≡ length f.drivers → length more ≡ length g.drivers
    → TellStructures (structure_of f variables) (structure_of g others) numbers more
    → HaveOneValue f g (inputs_under variables a) (inputs_under others a) numbers more
one_value f g variables others numbers more a h follows i leads size other_size told =
    λ s t inside within same.
    equal_values f g variables others s t a h follows i leads inside within
    (told.no_other s t (omega (arith, inside, size)) (omega (arith, within, other_size)) same)

pub have_one_value : (f g : FlatOf) (variables others : List ℕ) (c : ClassesOf) → IsFlat f
    → FollowsDrivers f → IsFlat g
    → FollowsDrivers g → AreClasses f g variables others c → HaveOneValueEach f g variables others c
have_one_value f g variables others c h follows i leads classes = record {
  in_first = λ a. one_value f f variables variables c.first c.first a h follows h follows
      classes.first_size classes.first_size classes.in_first;
  in_second = λ a. one_value g g others others c.second c.second a i leads i leads
      classes.second_size classes.second_size classes.in_second;
  across = λ a. one_value f g variables others c.first c.second a h follows i leads
      classes.first_size classes.second_size classes.across;
}
