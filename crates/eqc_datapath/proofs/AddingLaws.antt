-- Words of outputs whose literals are asked about, and what becomes known of them.
use Rattle.std.proofs.Common.{◌≡◌, ℕ, ◌+◌, ◌<◌, ◌≤◌, true, List, [], ◌∷◌, ◌++◌, length, get_or}
use Rattle.std.proofs.Common.{set, refl, sym, ◌∙◌, ap, subst, inl, inr, arith, Option, Some, None}
use Rattle.std.proofs.lemmas.Bool.{cases_eq}
use Rattle.std.proofs.lemmas.List.{get_or_push, get_or_append_left, length_push}
use Rattle.eqc_xag.specs.declared.node.Node.{Node}
use Rattle.eqc_xag.specs.Graph.{Extends}
use Rattle.eqc_sweep.specs.Finding.{AreEqual}
use Rattle.eqc_sums.specs.Adding.{AreEqualWords}
use Rattle.eqc_pair.specs.PairOf.{PairOf}
use Rattle.eqc_build.specs.Building.{reference_of}
use Rattle.eqc_build.specs.Steps.{StepsOf, roots_of}
use Rattle.eqc_compare.specs.Alike.{IsKnown}
use Rattle.eqc_compare.specs.Comparing.{difference_at}
use Rattle.eqc_compare.specs.declared.alike.Alike.{Alike}
use Rattle.eqc_literals.specs.Literals.{IsInside, KeepsMarks}
use Rattle.eqc_datapath.specs.Adding.{AreAskedBy}
use Rattle.eqc_literals.proofs.LiteralLaws.{asked_equal, equal_set, inside_stays, kept_set}

-- the first k outputs of a word were asked about
pub record IsAsking (g : StepsOf) (literals : List (Option ℕ)) (word ps qs : List ℕ) (k : ℕ) : Type
    0 where
  pub first : length ps ≡ k
  pub second : length qs ≡ k
  pub each : (nodes : List Node) (j : ℕ) → IsInside g nodes literals → j < k
      → AreEqual nodes (get_or ps j 0) (get_or qs j 0) → difference_at g.pair (get_or word j 0)
      ≡ None

pub asking_begins : (g : StepsOf) (literals : List (Option ℕ)) (word : List ℕ)
    → IsAsking g literals word [] [] 0
asking_begins g literals word = record {
  first = refl;
  second = refl;
  each = λ nodes j is less same. absurd (omega arith);
}

-- one output more
pub asking_more : (g : StepsOf) (literals : List (Option ℕ)) (word ps qs roots : List ℕ) (k x y : ℕ)
    →
    get_or word k 0 < length g.pair.first.outputs → roots ≡ roots_of g (get_or word k 0)
    → reference_of literals (get_or roots 0 0) ≡ Some x
    → reference_of literals (get_or roots 1 0) ≡ Some y
    → IsAsking g literals word ps qs k → IsAsking g literals word (ps ++ x ∷ []) (qs ++ y ∷ []) (k
    + 1)
asking_more g literals word ps qs roots k x y inside are some other so_far = record {
  first = length_push ps x ∙ ap (λ n. n + 1) so_far.first;
  second = length_push qs y ∙ ap (λ n. n + 1) so_far.second;
  each = λ nodes j is less same. elim (cases_eq j k) [
    | inl e ↦
        let last : AreEqual nodes x y =
        subst (λ l. AreEqual nodes l y) (ap (λ i. get_or (ps ++ x ∷ []) i 0) e
        ∙ at_end ps x k so_far.first)
        (subst (λ l. AreEqual nodes (get_or (ps ++ x ∷ []) j 0) l)
        (ap (λ i. get_or (qs ++ y ∷ []) i 0) e ∙ at_end qs y k so_far.second) same) in
        ap (λ i. difference_at g.pair (get_or word i 0)) e
        ∙ asked_equal g nodes literals roots (get_or word k 0) x y is inside are some other
        last.value
    | inr apart ↦
        let lower : j < k = omega (arith, less, apart) in
        so_far.each nodes j is lower (subst (λ l. AreEqual nodes l (get_or qs j 0))
        (old ps x j (omega (arith, lower, so_far.first)))
        (subst (AreEqual nodes (get_or (ps ++ x ∷ []) j 0))
        (old qs y j (omega (arith, lower, so_far.second))) same))
  ];
}
  where
    at_end : (ls : List ℕ) (l n : ℕ) → length ls ≡ n → get_or (ls ++ l ∷ []) n 0 ≡ l
    at_end ls l n size = get_or_push ls l 0 n size

    old : (ls : List ℕ) (l j : ℕ) → j < length ls → get_or (ls ++ l ∷ []) j 0 ≡ get_or ls j 0
    old ls l j less = get_or_append_left ls (l ∷ []) 0 j less

-- what was asked about
pub asked_all : (g : StepsOf) (literals : List (Option ℕ)) (word ps qs : List ℕ) (k : ℕ)
    → k ≤ length word → IsAsking g literals word ps qs k → AreAskedBy g literals word ps qs
asked_all g literals word ps qs k within so_far = record {
  few = omega (arith, within, so_far.first);
  same = so_far.second ∙ sym so_far.first;
  each = λ nodes j is less same. so_far.each nodes j is (omega (arith, less, so_far.first)) same;
}

-- the first k outputs of a word became marked
pub record IsMarking (word : List ℕ) (count : ℕ) (old new : Alike) (k : ℕ) : Type 0 where
  pub known : (p : PairOf) → IsKnown p old → ((j : ℕ) → j < count
      → difference_at p (get_or word j 0) ≡ None) → IsKnown p new
  pub kept : (p : PairOf) → KeepsMarks p old.equal.items new.equal.items

pub marking_begins : (word : List ℕ) (count : ℕ) (old : Alike) → IsMarking word count old old 0
marking_begins word count old = record {
  known = λ p known none. known;
  kept = λ p o inside marked. marked;
}

-- one output more
pub marking_more : (word : List ℕ) (count : ℕ) (old now new : Alike) (k : ℕ) → k < count →
    new.equal.items ≡ set now.equal.items (get_or word k 0) true → new.chosen ≡ now.chosen
    → IsMarking word count old now k → IsMarking word count old new (k + 1)
marking_more word count old now new k less is same so_far = record {
  known = λ p known none.
      let before = so_far.known p known none in
      record {
        equal = subst (λ marks. Rattle.eqc_compare.specs.Alike.AreEqual p marks) (sym is)
            (equal_set p now.equal.items (get_or word k 0) before.equal (none k less));
        choice = rw same before.choice;
      };
  kept = λ p. subst (λ marks. KeepsMarks p old.equal.items marks) (sym is)
      (kept_set p old.equal.items now.equal.items (get_or word k 0) (so_far.kept p));
}

-- an output of a word never differs whose two words of literals were shown equal
pub shown_none : (g : StepsOf) (old new : List Node) (literals : List (Option ℕ))
    (word ps qs : List ℕ) (k : ℕ) →
    Extends old new → IsInside g old literals → AreAskedBy g literals word ps qs
    → AreEqualWords new ps qs → k < length ps →
    difference_at g.pair (get_or word k 0) ≡ None
shown_none g old new literals word ps qs k extends is asked shown less =
    asked.each new k (inside_stays g old new literals extends is) less (shown.equal k less)
