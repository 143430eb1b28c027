-- Whether an assignment gives the first variables of a list these values.
use Rattle.std.proofs.Common.{◌≡◌, ℕ, zero, suc, ◌<◌, ◌≤◌, Bool, true, false, not, ◌&&◌, List, []}
use Rattle.std.proofs.Common.{◌∷◌, ◌++◌, length, map, drop, get_or, sym, ap, refl, ◌∙◌, arith}
use Rattle.std.proofs.Common.{suc-le-suc}
use Rattle.std.proofs.lemmas.List.{get_or_append_left}
use Rattle.std.proofs.lemmas.Bool.{and_parts, and_from}
use Rattle.eqc_tree.specs.Assigned.{assigned, AreDistinct}
use Rattle.eqc_tree.proofs.AssignedLemmas.{assigned_at}

-- whether a value is the one that is wanted
abbrev pub is_value : Bool → Bool → Bool
is_value true b = b
is_value false b = not b

-- whether the first variables have these values
abbrev pub follows : List ℕ → List Bool → (ℕ → Bool) → Bool
follows vs [] a = true
follows [] (b ∷ bs) a = true
follows (v ∷ vs) (b ∷ bs) a = is_value b (a v) && follows vs bs a

pub is_value-same : (b x : Bool) → is_value b x ≡ true → x ≡ b
is_value-same true x h = h
is_value-same false true h = sym h
is_value-same false false h = refl

is_value-self : (b : Bool) → is_value b b ≡ true
is_value-self true = refl
is_value-self false = refl

-- conjunctions regrouped
pub and_assoc : (x y z : Bool) → (x && (y && z)) ≡ ((x && y) && z)
and_assoc true y z = refl
and_assoc false y z = refl

pub and_true : (x : Bool) → (x && true) ≡ x
and_true true = refl
and_true false = refl

-- where each variable has its value
pub follows_from : (vs : List ℕ) (bs : List Bool) (a : ℕ → Bool) → ((i : ℕ) → i < length bs
    → i < length vs → a (get_or vs i 0) ≡ get_or bs i false) → follows vs bs a ≡ true
follows_from vs [] a same = refl
follows_from [] (b ∷ bs) a same = refl
follows_from (v ∷ vs) (b ∷ bs) a same =
    let first : a v ≡ b = same zero (omega arith) (omega arith) in
    and_from (is_value b (a v)) (follows vs bs a)
    (ap (λ x. is_value b x) first ∙ is_value-self b)
    (follows_from vs bs a (λ i h k. same (suc i) (suc-le-suc h) (suc-le-suc k)))

-- one value more
pub follows_push : (vs : List ℕ) (bs : List Bool) (b : Bool) (a : ℕ → Bool) → length bs < length vs
    → follows vs (bs ++ b ∷ []) a ≡ (follows vs bs a && is_value b (a (get_or vs (length bs) 0)))
follows_push [] bs b a h = absurd (omega arith)
follows_push (v ∷ vs) [] b a h = and_true (is_value b (a v))
follows_push (v ∷ vs) (c ∷ bs) b a h =
    let less : length bs < length vs = omega arith in
    ap (λ x. is_value c (a v) && x) (follows_push vs bs b a less)
    ∙ and_assoc (is_value c (a v)) (follows vs bs a) (is_value b (a (get_or vs (length bs) 0)))

-- the values of the variables begin with those that it follows
pub follows_values : (vs : List ℕ) (bs : List Bool) (a : ℕ → Bool) → length bs ≤ length vs
    → follows vs bs a ≡ true → map a vs ≡ bs ++ map a (drop (length bs) vs)
follows_values vs [] a h f = refl
follows_values [] (b ∷ bs) a h f = absurd (omega arith)
follows_values (v ∷ vs) (b ∷ bs) a h f =
    let less : length bs ≤ length vs = omega arith in
    let both : (is_value b (a v) ≡ true) × (follows vs bs a ≡ true) =
    and_parts (is_value b (a v)) (follows vs bs a) f in
    let first : a v ≡ b = is_value-same b (a v) both.0 in
    let rest : map a vs ≡ bs ++ map a (drop (length bs) vs) = follows_values vs bs a less both.1 in
    cc

-- an assignment that begins with values follows them
pub follows_assigned : (vs : List ℕ) (bs t : List Bool) → AreDistinct vs → length bs ≤ length vs
    → follows vs bs (assigned vs (bs ++ t)) ≡ true
follows_assigned vs bs t distinct h =
    follows_from vs bs (assigned vs (bs ++ t))
    (λ i less within. assigned_at vs (bs ++ t) i distinct within
    ∙ get_or_append_left bs t false i less)
