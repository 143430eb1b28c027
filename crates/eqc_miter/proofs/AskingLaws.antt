-- Outputs that are asked for, as they are gone through in their order, and those that lack a
-- literal.
use Rattle.std.proofs.Common.{◌≡◌, inl, inr, ℕ, ◌+◌, ◌<◌, List, [], ◌∷◌, ◌++◌, length, take}
use Rattle.std.proofs.Common.{get_or, refl, sym, arith, Option, None, All}
use Rattle.std.proofs.lemmas.List.{take_more, map-append}
use Rattle.std.proofs.lemmas.List.Elements.{All-push, All-weaker, Contains-push}
use Rattle.std.proofs.lemmas.List.Elements.{Contains-append_left}
use Rattle.eqc_build.specs.Building.{reference_of}
use Rattle.eqc_build.specs.Steps.{StepsOf, assumed_root, roots_of}
use Rattle.eqc_miter.specs.declared.asking.Question.{Question}
use Rattle.eqc_miter.specs.Asking.{AreSomeOf, IsAskedIn, LacksLiteral, outputs_asked}

none_of : (xs : List ℕ) → AreSomeOf [] xs
none_of [] = refl
none_of (x ∷ xs) = tt

-- a further element is left out
some_without : (some xs : List ℕ) (x : ℕ) → AreSomeOf some xs → AreSomeOf some (xs ++ x ∷ [])
some_without some [] x are = rw are tt
some_without [] (y ∷ xs) x are = tt
some_without (z ∷ some) (y ∷ xs) x are = elim are [
  | inl here ↦ inl (here.0, some_without some xs x here.1)
  | inr there ↦ inr (some_without (z ∷ some) xs x there)
]

-- or taken
some_with : (some xs : List ℕ) (x : ℕ) → AreSomeOf some xs
    → AreSomeOf (some ++ x ∷ []) (xs ++ x ∷ [])
some_with some [] x are = rw are (inl (refl, refl))
some_with [] (y ∷ xs) x are = inr (some_with [] xs x (none_of xs))
some_with (z ∷ some) (y ∷ xs) x are = elim are [
  | inl here ↦ inl (here.0, some_with some xs x here.1)
  | inr there ↦ inr (some_with (z ∷ some) xs x there)
]

-- the next of some outputs isn't asked for
pub some_left : (outputs : List ℕ) (k : ℕ) (some : List ℕ) → k < length outputs
    → AreSomeOf some (take k outputs) → AreSomeOf some (take (k + 1) outputs)
some_left outputs k some inside are =
    rw (take_more outputs k 0 inside) (some_without some (take k outputs) (get_or outputs k 0) are)

-- or it is
pub some_asked : (outputs : List ℕ) (k : ℕ) (questions : List Question) (q : Question)
    → k < length outputs → q.output ≡ get_or outputs k 0 →
    AreSomeOf (outputs_asked questions) (take k outputs)
    → AreSomeOf (outputs_asked (questions ++ q ∷ [])) (take (k + 1) outputs)
some_asked outputs k questions q inside same are =
    rw (
      take_more outputs k 0 inside,
      map-append (λ (x : Question). x.output) questions (q ∷ []),
      same,
    ) (some_with (outputs_asked questions) (take k outputs) (get_or outputs k 0) are)

-- ---- none is passed over that has its literals

-- the assumption's step lacks one, or one of the output's two
pub lacks_root : (g : StepsOf) (literals : List (Option ℕ)) (root o : ℕ)
    → root ∷ [] ≡ assumed_root g → None ≡ reference_of literals root → LacksLiteral g literals o
lacks_root g literals root o are none = record {
  step = root;
  needed =
      rw (← are) (Contains-push (roots_of g o) root);
  none = sym none;
}

pub lacks_first : (g : StepsOf) (literals : List (Option ℕ)) (roots : List ℕ) (o : ℕ)
    → roots ≡ roots_of g o → None ≡ reference_of literals (get_or roots 0 0)
    → LacksLiteral g literals o
unfolding roots_of
lacks_first g literals roots o are none = record {
  step = get_or roots 0 0;
  needed = rw are (Contains-append_left (roots_of g o) (assumed_root g) (get_or (roots_of g o) 0 0)
      (0, omega arith, refl));
  none = sym none;
}

pub lacks_second : (g : StepsOf) (literals : List (Option ℕ)) (roots : List ℕ) (o : ℕ)
    → roots ≡ roots_of g o → None ≡ reference_of literals (get_or roots 1 0)
    → LacksLiteral g literals o
unfolding roots_of
lacks_second g literals roots o are none = record {
  step = get_or roots 1 0;
  needed = rw are (Contains-append_left (roots_of g o) (assumed_root g) (get_or (roots_of g o) 1 0)
      (1, omega arith, refl));
  none = sym none;
}

-- one that lacks one is passed over
pub asked_but_one : (g : StepsOf) (literals : List (Option ℕ)) (outputs : List ℕ) (k : ℕ)
    (questions : List Question) → k < length outputs → LacksLiteral g literals (get_or outputs k 0)
    →
    All (IsAskedIn g literals questions) (take k outputs)
    → All (IsAskedIn g literals questions) (take (k + 1) outputs)
asked_but_one g literals outputs k questions inside lacks are =
    rw (take_more outputs k 0 inside) (All-push (IsAskedIn g literals questions) (take k outputs)
    (get_or outputs k 0) are (inr lacks))

asked_still : (g : StepsOf) (literals : List (Option ℕ)) (questions : List Question) (q : Question)
    (o : ℕ) → IsAskedIn g literals questions o → IsAskedIn g literals (questions ++ q ∷ []) o
asked_still g literals questions q o is = elim is [
  | inl asked ↦ inl (rw (map-append (λ (x : Question). x.output) questions (q ∷ []))
      (Contains-append_left (outputs_asked questions) (q.output ∷ []) o asked))
  | inr lacks ↦ inr lacks
]

-- another one is asked for
pub asked_with : (g : StepsOf) (literals : List (Option ℕ)) (outputs : List ℕ) (k : ℕ)
    (questions : List Question) (q : Question) → k < length outputs → q.output ≡ get_or outputs k 0
    →
    All (IsAskedIn g literals questions) (take k outputs)
    → All (IsAskedIn g literals (questions ++ q ∷ [])) (take (k + 1) outputs)
asked_with g literals outputs k questions q inside same are =
    let more = questions ++ q ∷ [] in
    let here : IsAskedIn g literals more (get_or outputs k 0) =
    inl (rw (map-append (λ (x : Question). x.output) questions (q ∷ []), ← same)
    (Contains-push (outputs_asked questions) q.output)) in
    rw (take_more outputs k 0 inside)
    (All-push (IsAskedIn g literals more) (take k outputs) (get_or outputs k 0)
    (All-weaker (IsAskedIn g literals questions) (IsAskedIn g literals more) (asked_still g literals
    questions q) (take k outputs) are) here)
