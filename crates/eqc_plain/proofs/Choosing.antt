-- The values chosen by a search are those of the least assignment so far.
use Rattle.std.proofs.Common.{◌≡◌, ℕ, ◌<◌, ◌≤◌, Bool, true, false, not, ◌&&◌, List, [], ◌∷◌, ◌++◌}
use Rattle.std.proofs.Common.{length, get_or, Option, None, refl, sym, ◌∙◌, ap, subst, arith}
use Rattle.std.proofs.Common.{true≢false}
use Rattle.std.proofs.lemmas.Bool.{and_parts, and_from}
use Rattle.std.proofs.lemmas.List.{length-append}
use Rattle.eqc_tree.specs.Assigned.{IsSatisfiable}
use Rattle.eqc_tree.proofs.FollowsLemmas.{follows, follows_push, is_value, and_assoc, and_true}
use Rattle.eqc_tree.proofs.FollowsLemmas.{is_value-same}
use Rattle.eqc_tree.proofs.Choosing.{IsOver, IsChosen, starts_chosen, chooses_false, chooses_true}
use Rattle.eqc_tree.proofs.Choosing.{chosen_as}
use Rattle.eqc_plain.specs.Searching.{Agrees, IsChoice}
use Rattle.eqc_plain.proofs.Searching.{agrees_more, agrees_less}

-- the values of the first variables are the least, are those chosen, and no other variable has one
pub record IsDecided (vs : List ℕ) (f : (ℕ → Bool) → Bool) (choices : List (Option Bool))
    (values : List Bool) : Type 0 where
  pub chosen : IsChosen vs f (λ a. f a && follows vs values a) values
  pub agree : (a : ℕ → Bool) → follows vs values a ≡ true → Agrees choices a
  pub follow : (a : ℕ → Bool) → Agrees choices a → follows vs values a ≡ true
  pub free : (j : ℕ) → length values ≤ j → j < length vs → get_or choices (get_or vs j 0) None
      ≡ None

-- at the start no variable has a value
pub starts_decided : (vs : List ℕ) (f : (ℕ → Bool) → Bool) (choices : List (Option Bool))
    (values : List Bool) →
    ((v : ℕ) → get_or choices v None ≡ None) → IsSatisfiable f → values ≡ []
    → IsDecided vs f choices values
starts_decided vs f choices values free satisfiable empty =
    let start : IsDecided vs f choices [] = record {
      chosen = starts_chosen vs f (λ a. f a && follows vs [] a) [] (λ a. and_true (f a)) satisfiable
          refl;
      agree = λ a e v b is. let none = free v in cc;
      follow = λ a agrees. refl;
      free = λ j from less. free (get_or vs j 0);
    } in
    rw empty start

is_value_of : (b x : Bool) → x ≡ b → is_value b x ≡ true
is_value_of true x e = e
is_value_of false true e = sym e
is_value_of false false e = refl

-- nothing is left of a function with a value under which it is false
nothing_with : (x y v : Bool) → (y ≡ true → v ≡ false → x ≡ false) → ((x && y) && not v) ≡ false
nothing_with false y v h = refl
nothing_with true false v h = refl
nothing_with true true true h = refl
nothing_with true true false h = h refl refl

module _ (vs : List ℕ) (f : (ℕ → Bool) → Bool) (over : IsOver vs f) where
  -- one value more is chosen
  chosen_more : (values : List Bool) (b : Bool) (w : ℕ → Bool) → length values < length vs
      → IsChosen vs f (λ a. f a && follows vs values a) values
      → f w ≡ true → follows vs (values ++ b ∷ []) w ≡ true
      → (b ≡ true → (a : ℕ → Bool) → follows vs values a ≡ true → a (get_or vs (length values) 0)
      ≡ false → f a ≡ false)
      → IsChosen vs f (λ a. f a && follows vs (values ++ b ∷ []) a) (values ++ b ∷ [])
  chosen_more values false w less chosen passes follow least =
      chooses_false vs f (λ a. f a && follows vs values a) (λ a. f a && follows vs (values ++ false
      ∷ []) a) values over chosen less
      (λ a. ap (λ x. f a && x) (follows_push vs values false a less)
      ∙ and_assoc (f a) (follows vs values a) (not (a (get_or vs (length values) 0))))
      (λ none. true≢false (sym (and_from (f w) (follows vs (values ++ false ∷ []) w) passes follow)
      ∙ none w))
  chosen_more values true w less chosen passes follow least =
      let more : IsChosen vs f (λ a. f a && follows vs values a) (values ++ true ∷ []) =
      chooses_true vs f (λ a. f a && follows vs values a) values over chosen less
      (λ a. nothing_with (f a) (follows vs values a) (a (get_or vs (length values) 0))
      (least refl a)) in
      chosen_as vs f (λ a. f a && follows vs values a) (λ a. f a && follows vs (values ++ true ∷ [])
      a) (values ++ true ∷ []) (λ a. sym (more.narrowed a)) more

  -- one variable more is decided
  pub decides_more : (old new : List (Option Bool)) (values : List Bool) (b : Bool) (w : ℕ → Bool)
      → length values < length vs → IsDecided vs f old values
      → IsChoice (get_or vs (length values) 0) b old new → f w ≡ true → Agrees new w
      → (b ≡ true → (a : ℕ → Bool) → Agrees old a → a (get_or vs (length values) 0) ≡ false
      → f a ≡ false)
      → IsDecided vs f new (values ++ b ∷ [])
  decides_more old new values b w less decided choice passes agrees least =
      let v : ℕ = get_or vs (length values) 0 in
      let free : get_or old v None ≡ None = decided.free (length values) (omega arith) less in
      let to : (a : ℕ → Bool) → Agrees new a → follows vs (values ++ b ∷ []) a ≡ true =
      λ a agree. follows_push vs values b a less
      ∙ and_from (follows vs values a) (is_value b (a v))
      (decided.follow a (agrees_less v b old new a choice free agree))
      (is_value_of b (a v) (agree v b choice.here)) in
      record {
        chosen = chosen_more values b w less decided.chosen passes (to w agrees)
            (λ e a follow at. least e a (decided.agree a follow) at);
        agree = λ a follow.
            let both = and_parts (follows vs values a) (is_value b (a v))
            (sym (follows_push vs values b a less) ∙ follow) in
            agrees_more v b old new a choice (decided.agree a both.0) (is_value-same b (a v)
            both.1);
        follow = to;
        free = λ j from within.
            let long = length-append values (b ∷ []) in
            choice.others (get_or vs j 0) (λ e. let same = over.distinct j (length values) within
            less e in omega arith)
            ∙ decided.free j (omega arith) within;
      }

  -- the same at a place k with the values then
  pub decides_at : (old new : List (Option Bool)) (values more : List Bool) (b : Bool) (w : ℕ
      → Bool) (k : ℕ) → length values ≡ k → k < length vs → IsDecided vs f old values
      → IsChoice (get_or vs k 0) b old new → f w ≡ true → Agrees new w
      → (b ≡ true → (a : ℕ → Bool) → Agrees old a → a (get_or vs k 0) ≡ false → f a ≡ false)
      → more ≡ values ++ b ∷ [] → IsDecided vs f new more
  decides_at old new values more b w k size less decided choice passes agrees least e =
      let P : ℕ → Type 0 = λ n. IsChoice (get_or vs n 0) b old new in
      let Q : ℕ → Type 0 = λ n. b ≡ true → (a : ℕ → Bool) → Agrees old a → a (get_or vs n 0) ≡ false
      → f a ≡ false in
      rw e (decides_more old new values b w (omega arith) decided (subst P (sym size) choice) passes
      agrees (subst Q (sym size) least))
