-- What stays sound.
use Rattle.std.proofs.Common.{◌≡◌, ℕ, suc, Bool, true, false, not, ◌||◌, List, [], ◌∷◌, refl, sym}
use Rattle.std.proofs.Common.{◌∙◌, ap, subst, inl, inr, arith}
use Rattle.std.proofs.lemmas.Bool.Decides.{eqb_tells}
use Rattle.std.proofs.lemmas.Bool.{false≢true}
use Rattle.eqc_xag.specs.declared.node.Node.{Node}
use Rattle.eqc_xag.specs.Graph.{literal_value, IsWithin, Extends}
use Rattle.eqc_rup.specs.Clauses.{clause_value, IsTrueOf, AreWithin, IsKept, clause_of, IsSound}
use Rattle.eqc_rup.specs.Clauses.{Puts, GivesUp, IsRefuted}

-- a store of no clauses is sound
pub none_sound : (nodes : List Node) → IsSound nodes []
none_sound nodes = record {
  kept = λ k. tt;
  within = λ k. record {
    within =
        λ i inside. absurd (omega (arith, inside));
  };
}

true_kept : (nodes : List Node) (c : List ℕ) → IsTrueOf nodes c → IsKept nodes c
true_kept nodes [] so = tt
true_kept nodes (l ∷ c) so = so

none_kept : (nodes : List Node) → IsKept nodes []
none_kept nodes = tt

none_within : (nodes : List Node) → AreWithin nodes []
none_within nodes = record { within = λ i inside. absurd (omega (arith, inside)) }

-- a store stays sound where a clause comes in that is true
pub put_sound :
    (nodes : List Node) (old new : List (List ℕ)) (number : ℕ) (c : List ℕ) →
    Puts old new number c → IsTrueOf nodes c → AreWithin nodes c → IsSound nodes old
    → IsSound nodes new
put_sound nodes old new number c puts so inside sound = record {
  kept = λ k. elim (eqb_tells k number) [
    | inl same ↦ subst (IsKept nodes) (sym puts.put ∙ ap (clause_of new) (sym same.1))
        (true_kept nodes c so)
    | inr other ↦ subst (IsKept nodes) (sym (puts.others k other.1)) (sound.kept k)
  ];
  within = λ k. elim (eqb_tells k number) [
    | inl same ↦ subst (AreWithin nodes) (sym puts.put ∙ ap (clause_of new) (sym same.1)) inside
    | inr other ↦ subst (AreWithin nodes) (sym (puts.others k other.1)) (sound.within k)
  ];
}

-- and where one goes
pub given_up_sound : (nodes : List Node) (old new : List (List ℕ)) (number : ℕ)
    → GivesUp old new number → IsSound nodes old → IsSound nodes new
given_up_sound nodes old new number gives sound = record {
  kept = λ k. elim (eqb_tells k number) [
    | inl same ↦ subst (IsKept nodes) (sym gives.gone ∙ ap (clause_of new) (sym same.1))
        (none_kept nodes)
    | inr other ↦ subst (IsKept nodes) (sym (gives.others k other.1)) (sound.kept k)
  ];
  within = λ k. elim (eqb_tells k number) [
    | inl same ↦ subst (AreWithin nodes) (sym gives.gone ∙ ap (clause_of new) (sym same.1))
        (none_within nodes)
    | inr other ↦ subst (AreWithin nodes) (sym (gives.others k other.1)) (sound.within k)
  ];
}

tail_within : (nodes : List Node) (l : ℕ) (c : List ℕ) → AreWithin nodes (l ∷ c) → AreWithin nodes c
tail_within nodes l c inside = record {
  within = λ i low. inside.within (suc i) (omega (arith, low));
}

same_value : (old new : List Node) (a : ℕ → Bool) (c : List ℕ) → Extends old new → AreWithin old c
    → clause_value new a c ≡ clause_value old a c
same_value old new a [] extends inside = refl
same_value old new a (l ∷ c) extends inside =
    let first : IsWithin old l = inside.within 0 (omega arith) in
    rw (extends.same l a first, same_value old new a c extends (tail_within old l c inside)) refl

-- a clause that is true of a graph is true of each graph that extends it, where its literals are of
-- its nodes
pub extended_true : (old new : List Node) (c : List ℕ) → Extends old new → AreWithin old c
    → IsTrueOf old c → IsTrueOf new c
extended_true old new c extends inside so =
    record { holds = λ a. same_value old new a c extends inside ∙ so.holds a }

extended_kept : (old new : List Node) (c : List ℕ) → Extends old new → AreWithin old c
    → IsKept old c → IsKept new c
extended_kept old new [] extends inside kept = tt
extended_kept old new (l ∷ c) extends inside kept = extended_true old new (l ∷ c) extends inside
    kept

-- a store that is sound for a graph is sound for each graph that extends it
pub extended_sound : (old new : List Node) (clauses : List (List ℕ)) → Extends old new
    → IsSound old clauses → IsSound new clauses
extended_sound old new clauses extends sound = record {
  kept = λ k. extended_kept old new (clause_of clauses k) extends (sound.within k) (sound.kept k);
  within = λ k. record {
    within = λ i low. omega (
      arith,
      (sound.within k).within i low,
      extends.longer,
    );
  };
}

one_of_two : (x y nx ny : Bool) → nx ≡ not x → ny ≡ not y → (not x || (not ny || false)) ≡ true
    → (not nx || (not y || false)) ≡ true → x ≡ y
one_of_two true true nx ny is_nx is_ny there back = refl
one_of_two false false nx ny is_nx is_ny there back = refl
one_of_two true false nx ny is_nx is_ny there back =
    absurd (false≢true (sym (ap (λ (b : Bool). not b || false) is_ny) ∙ there))
one_of_two false true nx ny is_nx is_ny there back =
    absurd (false≢true (sym (ap (λ (b : Bool). not b || false) is_nx) ∙ back))

-- two literals are equal where neither can be true without the other
pub equal_if_refuted :
    (nodes : List Node) (x y nx ny : ℕ) →
    ((a : ℕ → Bool) → literal_value nodes a nx ≡ not (literal_value nodes a x)) →
    ((a : ℕ → Bool) → literal_value nodes a ny ≡ not (literal_value nodes a y)) →
    IsRefuted nodes (x ∷ ny ∷ []) → IsRefuted nodes (nx ∷ y ∷ []) →
    (a : ℕ → Bool) → literal_value nodes a x ≡ literal_value nodes a y
equal_if_refuted nodes x y nx ny is_nx is_ny there back a =
    one_of_two (literal_value nodes a x) (literal_value nodes a y) (literal_value nodes a nx)
    (literal_value nodes a ny) (is_nx a) (is_ny a) (there.one_is_false a) (back.one_is_false a)
