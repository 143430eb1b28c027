-- The values chosen so far: each is the least that leaves the function satisfiable.
use Rattle.std.proofs.Common.{◌≡◌, ℕ, suc, ◌+◌, ◌<◌, ◌≤◌, Bool, true, false, not, cond, ◌&&◌, List}
use Rattle.std.proofs.Common.{[], ◌∷◌, ◌++◌, length, map, drop, get_or, find, Option, Some, None}
use Rattle.std.proofs.Common.{option_map, sym, ap, refl, ◌∙◌, arith, append_assoc, append-nil}
use Rattle.std.proofs.Common.{true≢false}
use Rattle.std.specs.Option.{option_or}
use Rattle.std.proofs.lemmas.List.{length-append, length-map, length-drop, get_or_at}
use Rattle.std.proofs.lemmas.Iterator.Adapters.{option_map_id}
use Rattle.eqc_tree.specs.Assigned.{assigned, AreDistinct, DependsOnlyOn, IsSatisfiable}
use Rattle.eqc_tree.specs.Assigned.{assignments}
use Rattle.eqc_tree.proofs.AssignedLemmas.{assigned_at, assigned_values}
use Rattle.eqc_tree.proofs.FollowsLemmas.{follows, follows_push, follows_values, follows_assigned}
use Rattle.eqc_tree.proofs.FollowsLemmas.{and_assoc, and_true}
use Rattle.eqc_tree.proofs.FindLemmas.{find_first, find_same, find_none, find_empty, none_found}

-- what is known of a function's variables
pub record IsOver (vs : List ℕ) (f : (ℕ → Bool) → Bool) : Type 0 where
  pub distinct : AreDistinct vs
  pub depends : DependsOnlyOn vs f

-- the values chosen so far, with what is left of the function under them
pub record IsChosen (vs : List ℕ) (f rest : (ℕ → Bool) → Bool) (bits : List Bool) : Type 0 where
  pub narrowed : (a : ℕ → Bool) → rest a ≡ (f a && follows vs bits a)
  pub satisfiable : IsSatisfiable rest
  pub least : (n : ℕ) → length bits + n ≡ length vs
      → find (λ t. f (assigned vs t)) (assignments (length vs)) ≡ option_map (λ t. bits ++ t)
      (find (λ t. f (assigned vs (bits ++ t))) (assignments n))

-- the values that an assignment gives the variables make the function what the assignment makes it
at_values : (vs : List ℕ) (f : (ℕ → Bool) → Bool) (a : ℕ → Bool) → IsOver vs f
    → f (assigned vs (map a vs)) ≡ f a
at_values vs f a over = over.depends (assigned vs (map a vs)) a (λ i h. assigned_values vs a i
    over.distinct h)

-- where no completion of the values makes the function true, nothing is left of it
nothing_left : (vs : List ℕ) (f : (ℕ → Bool) → Bool) (bits : List Bool) (n : ℕ) (a : ℕ → Bool)
    → IsOver vs f → length bits + n ≡ length vs →
    find (λ t. f (assigned vs (bits ++ t))) (assignments n) ≡ None → follows vs bits a ≡ true
    → f a ≡ false
nothing_left vs f bits n a over size none follow =
    let within : length bits ≤ length vs = omega arith in
    let tail : List Bool = map a (drop (length bits) vs) in
    let long : length tail ≡ n = omega (
      arith,
      length-map (drop (length bits) vs) a,
      length-drop (length bits) vs,
    ) in
    sym (at_values vs f a over)
    ∙ ap (λ t. f (assigned vs t)) (follows_values vs bits a within follow)
    ∙ none_found n (λ t. f (assigned vs (bits ++ t))) none tail long

-- what is left of a function is false where the function is
left_false : (x y : Bool) → (y ≡ true → x ≡ false) → (x && y) ≡ false
left_false true true h = h refl
left_false true false h = refl
left_false false y h = refl

-- what is left of a function can be satisfied by a completion
pub is_found : (vs : List ℕ) (f rest : (ℕ → Bool) → Bool) (bits : List Bool) (n : ℕ) → IsOver vs f →
    ((a : ℕ → Bool) → rest a ≡ (f a && follows vs bits a)) → IsSatisfiable rest
    → length bits + n ≡ length vs →
    find (λ t. f (assigned vs (bits ++ t))) (assignments n) ≡ None → ⊥
is_found vs f rest bits n over narrowed satisfiable size none =
    satisfiable (λ a. narrowed a ∙ left_false (f a) (follows vs bits a) (nothing_left vs f bits n a
    over size none))

-- values before others, put before them in two steps
extended : (bits : List Bool) (b : Bool) (o : Option (List Bool))
    → option_map (λ t. bits ++ t) (option_map (λ t. b ∷ t) o) ≡ option_map (λ t. (bits ++ b ∷ [])
    ++ t) o
extended bits b None = refl
extended bits b (Some t) = ap Some (sym (append_assoc bits (b ∷ []) t))

-- of two options, the first where it is there
first_of_two : (o u : Option (List Bool)) → (o ≡ None → ⊥)
    → option_or (option_map (λ t. false ∷ t) o) u ≡ option_map (λ t. false ∷ t) o
first_of_two None u there = absurd (there refl)
first_of_two (Some t) u there = refl

-- a search among completions of values with one more
completed : (vs : List ℕ) (f : (ℕ → Bool) → Bool) (bits : List Bool) (b : Bool) (n : ℕ) →
    find (λ t. f (assigned vs (bits ++ b ∷ t))) (assignments n)
    ≡ find (λ t. f (assigned vs ((bits ++ b ∷ []) ++ t))) (assignments n)
completed vs f bits b n =
    find_same (λ t. f (assigned vs (bits ++ b ∷ t))) (λ t. f (assigned vs ((bits ++ b ∷ []) ++ t)))
    (λ t. ap (λ u. f (assigned vs u)) (sym (append_assoc bits (b ∷ []) t)))
    (assignments n)

-- at the start nothing is chosen
pub starts_chosen : (vs : List ℕ) (f rest : (ℕ → Bool) → Bool) (bits : List Bool)
    → ((a : ℕ → Bool) → rest a ≡ f a) → IsSatisfiable f → bits ≡ [] → IsChosen vs f rest bits
starts_chosen vs f rest bits same satisfiable empty =
    let start : IsChosen vs f rest [] = record {
      narrowed = λ a. same a ∙ sym (and_true (f a));
      satisfiable = λ none. satisfiable (λ a. sym (same a) ∙ none a);
      least = λ n size.
          let long : length vs ≡ n = omega arith in
          rw long (sym (option_map_id (find (λ t. f (assigned vs t)) (assignments n))));
    } in
    rw empty start

-- a value more, where what is left with the value false is satisfiable
pub chooses_false : (vs : List ℕ) (f rest low : (ℕ → Bool) → Bool) (bits : List Bool) → IsOver vs f
    → IsChosen vs f rest bits →
    length bits < length vs → ((a : ℕ → Bool)
    → low a ≡ (rest a && not (a (get_or vs (length bits) 0)))) → IsSatisfiable low →
    IsChosen vs f low (bits ++ false ∷ [])
chooses_false vs f rest low bits over chosen h left satisfiable =
    let narrowed : (a : ℕ → Bool) → low a ≡ (f a && follows vs (bits ++ false ∷ []) a) =
    λ a. left a
    ∙ ap (λ x. x && not (a (get_or vs (length bits) 0))) (chosen.narrowed a)
    ∙ sym (and_assoc (f a) (follows vs bits a) (not (a (get_or vs (length bits) 0))))
    ∙ ap (λ x. f a && x) (sym (follows_push vs bits false a h)) in
    record {
      narrowed = narrowed;
      satisfiable = satisfiable;
      least = λ n size.
          let more : length bits + suc n ≡ length vs =
          omega (arith, length-append bits (false ∷ [])) in
          let there : find (λ t. f (assigned vs (bits ++ false ∷ t))) (assignments n) ≡ None → ⊥ =
          λ none. is_found vs f low (bits ++ false ∷ []) n over narrowed satisfiable size
          (sym (completed vs f bits false n) ∙ none) in
          chosen.least (suc n) more
          ∙ ap (λ o. option_map (λ t. bits ++ t) o)
          (find_first (λ t. f (assigned vs (bits ++ t))) n
          ∙ first_of_two (find (λ t. f (assigned vs (bits ++ false ∷ t))) (assignments n))
          (option_map (λ t. true ∷ t) (find (λ t. f (assigned vs (bits ++ true ∷ t)))
          (assignments n))) there)
          ∙ extended bits false (find (λ t. f (assigned vs (bits ++ false ∷ t))) (assignments n))
          ∙ ap (λ o. option_map (λ t. (bits ++ false ∷ []) ++ t) o) (completed vs f bits false n);
    }

-- the only way for a conjunction to be false
only_way : (r x y v : Bool) → r ≡ (x && y) → y ≡ true → v ≡ false → (r && not v) ≡ false → x ≡ false
only_way r false y v e followed at nothing = refl
only_way r true y v e followed at nothing = absurd (true≢false (rw (e, followed, at) at nothing))

-- what is left with the value true is all
all_left : (x v : Bool) → (x && not v) ≡ false → x ≡ (x && v)
all_left false v nothing = refl
all_left true true nothing = refl
all_left true false nothing = nothing

-- no completion with the value false makes the function true where nothing is left with it
none_with_false : (vs : List ℕ) (f rest : (ℕ → Bool) → Bool) (bits : List Bool) → IsOver vs f
    → IsChosen vs f rest bits →
    length bits < length vs → ((a : ℕ → Bool) → (rest a && not (a (get_or vs (length bits) 0)))
    ≡ false) → (t : List Bool) →
    f (assigned vs (bits ++ false ∷ t)) ≡ false
none_with_false vs f rest bits over chosen h nothing t =
    let a : ℕ → Bool = assigned vs (bits ++ false ∷ t) in
    let within : length bits ≤ length vs = omega arith in
    only_way (rest a) (f a) (follows vs bits a) (a (get_or vs (length bits) 0))
    (chosen.narrowed a)
    (follows_assigned vs bits (false ∷ t) over.distinct within)
    (assigned_at vs (bits ++ false ∷ t) (length bits) over.distinct h
    ∙ get_or_at bits false t false (length bits) refl)
    (nothing a)

-- a value more, where nothing is left with the value false
pub chooses_true : (vs : List ℕ) (f rest : (ℕ → Bool) → Bool) (bits : List Bool) → IsOver vs f
    → IsChosen vs f rest bits →
    length bits < length vs → ((a : ℕ → Bool) → (rest a && not (a (get_or vs (length bits) 0)))
    ≡ false) → IsChosen vs f rest (bits ++ true ∷ [])
chooses_true vs f rest bits over chosen h nothing = record {
  narrowed = λ a.
      all_left (rest a) (a (get_or vs (length bits) 0)) (nothing a)
      ∙ ap (λ x. x && a (get_or vs (length bits) 0)) (chosen.narrowed a)
      ∙ sym (and_assoc (f a) (follows vs bits a) (a (get_or vs (length bits) 0)))
      ∙ ap (λ x. f a && x) (sym (follows_push vs bits true a h));
  satisfiable = chosen.satisfiable;
  least = λ n size.
      let more : length bits + suc n ≡ length vs = omega (arith, length-append bits (true ∷ [])) in
      let none : find (λ t. f (assigned vs (bits ++ false ∷ t))) (assignments n) ≡ None =
      find_none n (λ t. f (assigned vs (bits ++ false ∷ t))) (λ t long. none_with_false vs f rest
      bits over chosen h nothing t) in
      chosen.least (suc n) more
      ∙ ap (λ o. option_map (λ t. bits ++ t) o)
      (find_first (λ t. f (assigned vs (bits ++ t))) n
      ∙ ap (λ o. option_or (option_map (λ t. false ∷ t) o) (option_map (λ t. true ∷ t)
      (find (λ t. f (assigned vs (bits ++ true ∷ t))) (assignments n)))) none)
      ∙ extended bits true (find (λ t. f (assigned vs (bits ++ true ∷ t))) (assignments n))
      ∙ ap (λ o. option_map (λ t. (bits ++ true ∷ []) ++ t) o) (completed vs f bits true n);
}

-- an equal function in place of what is left
pub chosen_as : (vs : List ℕ) (f rest left : (ℕ → Bool) → Bool) (bits : List Bool)
    → ((a : ℕ → Bool) → left a ≡ rest a) → IsChosen vs f rest bits → IsChosen vs f left bits
chosen_as vs f rest left bits same chosen = record {
  narrowed = λ a. same a ∙ chosen.narrowed a;
  satisfiable = λ none. chosen.satisfiable (λ a. sym (same a) ∙ none a);
  least = chosen.least;
}

-- the one completion by no values, where there is one
one_completion : (bits : List Bool) (b : Bool) (o : Option (List Bool)) → o ≡ cond b (Some []) None
    → (o ≡ None → ⊥) → option_map (λ t. bits ++ t) o ≡ Some bits
one_completion bits true o e there = ap (λ u. option_map (λ t. bits ++ t) u) e
    ∙ ap Some (append-nil bits)
one_completion bits false o e there = absurd (there e)

-- at the end the values chosen are the least
pub ends_chosen : (vs : List ℕ) (f rest : (ℕ → Bool) → Bool) (bits : List Bool) → IsOver vs f
    → IsChosen vs f rest bits →
    length bits ≡ length vs → Some bits ≡ find (λ t. f (assigned vs t)) (assignments (length vs))
ends_chosen vs f rest bits over chosen size =
    let whole : length bits + 0 ≡ length vs = omega arith in
    sym (chosen.least 0 whole
    ∙ one_completion bits (f (assigned vs (bits ++ []))) (find (λ t. f (assigned vs (bits ++ t)))
    (assignments 0))
    (find_empty (λ t. f (assigned vs (bits ++ t))))
    (is_found vs f rest bits 0 over chosen.narrowed chosen.satisfiable whole))
