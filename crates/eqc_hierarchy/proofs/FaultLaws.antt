-- What is at fault in the models that a main model reaches is found, and told by its place.
use Rattle.std.proofs.Common.{◌==◌, ◌≡◌, ℕ, ◌<◌, Bool, true, false, not, ◌&&◌, List, [], ◌∷◌, ◌++◌}
use Rattle.std.proofs.Common.{length, map, take, get_or, refl, sym, ◌∙◌, ap, arith, Option, Some}
use Rattle.std.proofs.Common.{None, nat_lt, cond}
use Rattle.std.specs.Prelude.{is_some, position, IsSome}
use Rattle.std.specs.List.{list_any, fold, position_or_len}
use Rattle.std.proofs.lemmas.Bool.{true≢false, eq-eqb}
use Rattle.std.proofs.lemmas.List.Quantifiers.{position-Some}
use Rattle.std.proofs.lemmas.List.{append-nil, get_or-map, get_or-take, length-map, length-take-le}
use Rattle.eqc_blif.specs.Netlist.{ModelOf, InstanceOf}
use Rattle.eqc_netlist.specs.Names.{is_named}
use Rattle.eqc_blif.proofs.CodeLemmas.{alone}
use Rattle.eqc_hierarchy.specs.Hierarchy.{model_number, reached}
use Rattle.eqc_hierarchy.specs.Codes.{
  formals,
  has_no_such_model,
  is_recursive,
  has_unknown_formal,
  has_formal_twice,
  has_missing_formal,
  is_too_large,
  has_many_inputs,
  is_driven_twice,
  is_undriven,
  is_cyclic,
  code_if,
  flat_code,
  IsRefusedWith,
}
use Rattle.eqc_hierarchy.specs.InstanceFinding.{callee}
use Rattle.eqc_netlist.specs.NameSets.{with_name}
use Rattle.eqc_hierarchy.specs.Reaching.{some_instance_in}
use Rattle.eqc_hierarchy.specs.ModelFaults.{names_no_model, names_no_formal, names_formal_twice}
use Rattle.eqc_hierarchy.specs.ModelFaults.{leaves_input_out, ports}
use Rattle.eqc_netlist.specs.Rule.{rule_code}
use Rattle.eqc_netlist.specs.declared.rule.Rule.{Rule}
use Rattle.eqc_netlist.specs.declared.rule.Rule.TheVariants.{NoSuchModel, Recursion, UnknownFormal}
use Rattle.eqc_netlist.specs.declared.rule.Rule.TheVariants.{FormalTwice, MissingInput, DrivenTwice}
use Rattle.eqc_netlist.specs.declared.rule.Rule.TheVariants.{Undriven, Circle, TooLarge, ManyInputs}
use Rattle.eqc_hierarchy.proofs.NamingLaws.{front_place, member_named, named_member}
use Rattle.eqc_netlist.proofs.Depth.{or_right}
use Rattle.eqc_hierarchy.proofs.Distinct.{member_get, member_place}
use Rattle.eqc_netlist.proofs.NameSetLaws.{any_mapped}
use Rattle.eqc_hierarchy.proofs.NameSetLaws.{once_named, fold_once}
use Rattle.eqc_hierarchy.proofs.ModelFaultLaws.{no_formal_is, input_out_is}

pub none_some : (n : ℕ) → None ≡ Some n → ⊥
none_some n e = cc

-- what is nowhere stands at no place
pub unplaced : {X : Type 0} (p : X → Bool) (xs : List X) → is_some (position p xs) ≡ false
    → list_any p xs ≡ false
unplaced {X} p xs e =
    sym (sym (ap (λ (ys : List X). nat_lt (position_or_len p ys) (length xs)) (append-nil xs))
    ∙ front_place p xs [])
    ∙ by (nat_lt (position_or_len p xs) (length xs)) (position_or_len p xs) e
  where
    by : (b : Bool) (n : ℕ) → is_some (cond b (Some n) None) ≡ false → b ≡ false
    by true n k = absurd (true≢false k)
    by false n k = refl

-- what is known is there
pub there : (o : Option ℕ) → is_some o ≡ true → IsSome o
there None e = absurd (true≢false (sym e))
there (Some s) e = refl

-- the conditions of the codes, each with its rule, in their order
abbrev pub conditions : List ModelOf → ℕ → ℕ → List (Bool × Rule)
conditions library top limit =
    (has_no_such_model library top, NoSuchModel)
    ∷ (is_recursive library top, Recursion)
    ∷ (has_unknown_formal library top, UnknownFormal)
    ∷ (has_formal_twice library top, FormalTwice)
    ∷ (has_missing_formal library top, MissingInput)
    ∷ (is_too_large library top, TooLarge)
    ∷ (has_many_inputs library top limit, ManyInputs)
    ∷ (is_driven_twice library top, DrivenTwice)
    ∷ (is_undriven library top, Undriven)
    ∷ (is_cyclic library top, Circle)
    ∷ []

-- the code of the first condition that holds
abbrev pub first_code : List (Bool × Rule) → Option ℕ
first_code [] = None
first_code (c ∷ cs) = code_if c.0 (rule_code c.1) (first_code cs)

pub code_first : (library : List ModelOf) (top limit : ℕ) → flat_code library top limit
    ≡ first_code (conditions library top limit)
unfolding flat_code
code_first library top limit = refl

-- where a code is told, a condition with it holds
told_by : (cs : List (Bool × Rule)) (code : ℕ) → first_code cs ≡ Some code
    → list_any (λ c. (rule_code c.1 == code) && c.0) cs ≡ true
told_by [] code e = absurd (none_some code e)
told_by ((true, rule) ∷ cs) code e = rw (eq-eqb (rule_code rule) code (inside e)) refl
  where
    inside : Some (rule_code rule) ≡ Some code → rule_code rule ≡ code
    inside e = cc
told_by ((false, rule) ∷ cs) code e = or_right ((rule_code rule == code) && false)
    (list_any (λ c. (rule_code c.1 == code) && c.0) cs) (told_by cs code e)

pub told_code : (library : List ModelOf) (top limit code : ℕ) → flat_code library top limit
    ≡ Some code → list_any (λ c. (rule_code c.1 == code) && c.0) (conditions library top limit)
    ≡ true
told_code library top limit code e = told_by (conditions library top limit) code
    (sym (code_first library top limit) ∙ e)

-- the conditions of the codes of models, over the models that are reached
pub model_missing : (library : List ModelOf) (top : ℕ) → IsRefusedWith library top 21
    → some_instance_in library (reached library top) (names_no_model library) ≡ true
unfolding has_no_such_model
model_missing library top (limit, most, e) = alone (has_no_such_model library top)
    (told_code library top limit 21 e)

pub recursive : (library : List ModelOf) (top : ℕ) → IsRefusedWith library top 22
    → is_recursive library top ≡ true
recursive library top (limit, most, e) =
    alone (is_recursive library top) (told_code library top limit 22 e)

pub formal_unknown : (library : List ModelOf) (top : ℕ) → IsRefusedWith library top 23
    → some_instance_in library (reached library top) (names_no_formal library) ≡ true
unfolding has_unknown_formal
formal_unknown library top (limit, most, e) = alone (has_unknown_formal library top)
    (told_code library top limit 23 e)

pub formal_repeated : (library : List ModelOf) (top : ℕ) → IsRefusedWith library top 24
    → some_instance_in library (reached library top) names_formal_twice ≡ true
unfolding has_formal_twice
formal_repeated library top (limit, most, e) = alone (has_formal_twice library top)
    (told_code library top limit 24 e)

pub input_missing : (library : List ModelOf) (top : ℕ) → IsRefusedWith library top 25
    → some_instance_in library (reached library top) (leaves_input_out library) ≡ true
unfolding has_missing_formal
input_missing library top (limit, most, e) = alone (has_missing_formal library top)
    (told_code library top limit 25 e)

-- what stands somewhere has a first place
pub place_known : {X : Type 0} (p : X → Bool) (xs : List X) → list_any p xs ≡ true
    → is_some (position p xs) ≡ true
place_known p xs e = by (is_some (position p xs)) refl
  where
    by : (b : Bool) → is_some (position p xs) ≡ b → is_some (position p xs) ≡ true
    by true k = k
    by false k = absurd (true≢false (sym e ∙ unplaced p xs k))

pub not_true : (b : Bool) → not b ≡ true → b ≡ false
not_true false e = refl
not_true true e = absurd (true≢false (sym e))

-- the first formal that isn't among the ports of an instance's model
pub unknown_known : (library : List ModelOf) (i : InstanceOf) → names_no_formal library i ≡ true
    → is_some (position (λ (pair : List ℕ
    × List ℕ). not (is_named (ports library (model_number library i.model)) pair.0)) i.pairs)
    ≡ true
unknown_known library i e =
    let known = ports library (model_number library i.model) in
    place_known (λ (pair : List ℕ × List ℕ). not (is_named known pair.0)) i.pairs
    (sym (any_mapped (λ formal. not (is_named known formal)) (λ (pair : List ℕ × List ℕ). pair.0)
    i.pairs)
    ∙ (no_formal_is library i known refl ∙ e))

-- a pair's formal is one of its instance
pub formal_here : (i : InstanceOf) (k : ℕ) → k < length i.pairs
    → is_named (formals i) (get_or i.pairs k ([], [])).0 ≡ true
formal_here i k inside =
    let same : get_or (formals i) k [] ≡ (get_or i.pairs k ([], [])).0 =
    get_or-map (λ (pair : List ℕ × List ℕ). pair.0) i.pairs k ([], []) [] inside in
    ap (is_named (formals i)) (sym same)
    ∙ member_named (get_or (formals i) k []) (formals i)
    (member_get (formals i) k [] (omega (
      arith,
      length-map i.pairs (λ (pair : List ℕ
          × List ℕ). pair.0),
      inside,
    )))

pub unknown_is : (library : List ModelOf) (i : InstanceOf) (k : ℕ)
    → position (λ (pair : List ℕ
    × List ℕ). not (is_named (ports library (model_number library i.model)) pair.0)) i.pairs
    ≡ Some k
    → (k < length i.pairs)
    × (is_named (formals i) (get_or i.pairs k ([], [])).0 ≡ true)
    × (is_named ((callee library i).inputs ++ (callee library i).outputs) (get_or i.pairs k (
      [],
      [],
    )).0 ≡ false)
unknown_is library i k e =
    let found = position-Some (λ (pair : List ℕ
    × List ℕ). not (is_named (ports library (model_number library i.model)) pair.0)) i.pairs k
    ([], []) e in
    let name = (get_or i.pairs k ([], [])).0 in (
      found.0,
      formal_here i k found.0,
      sym (once_named ((callee library i).inputs ++ (callee library i).outputs) name)
          ∙ not_true (is_named (ports library (model_number library i.model)) name) found.1,
    )

-- the two places of a formal that stands in an earlier pair
pub repeated_is : (i : InstanceOf) (k : ℕ) → k < length i.pairs
    → is_named (map (λ (pair : List ℕ × List ℕ). pair.0) (take k i.pairs)) (get_or i.pairs k (
      [],
      [],
    )).0 ≡ true
    → (j : ℕ)
    × (l : ℕ)
    × (j < l)
    × (l < length (formals i))
    × (get_or (formals i) j [] ≡ (get_or i.pairs k ([], [])).0)
    × (get_or (formals i) l [] ≡ (get_or i.pairs k ([], [])).0)
repeated_is i k inside e =
    let f = λ (pair : List ℕ × List ℕ). pair.0 in
    let name = (get_or i.pairs k ([], [])).0 in
    let (j, less, same) = member_place (map f (take k i.pairs)) name []
    (named_member name (map f (take k i.pairs)) e) in
    let before : j < k = omega (
      arith,
      less,
      length-map (take k i.pairs) f,
      length-take-le k i.pairs
          (omega (arith, inside)),
    ) in
    let there : get_or (formals i) j [] ≡ get_or (map f (take k i.pairs)) j [] =
    get_or-map f i.pairs j ([], []) [] (omega (arith, before, inside))
    ∙ (ap f (sym (get_or-take k i.pairs j ([], []) before))
    ∙ sym (get_or-map f (take k i.pairs) j ([], []) []
    (omega (arith, less, length-map (take k i.pairs) f)))) in (
      j,
      k,
      before,
      omega (arith, inside, length-map i.pairs f),
      there
          ∙ same,
      get_or-map f i.pairs k ([], []) [] inside,
    )

-- the first input that an instance leaves out
pub input_known : (library : List ModelOf) (i : InstanceOf) (names inputs : List (List ℕ))
    → names ≡ fold with_name [] (formals i)
    → inputs ≡ (callee library i).inputs → leaves_input_out library i ≡ true
    → is_some (position (λ word. not (is_named names word)) inputs) ≡ true
input_known library i names inputs made same e =
    place_known (λ word. not (is_named names word)) inputs
    (ap (list_any (λ word. not (is_named names word))) same ∙ (input_out_is library i names made
    ∙ e))

pub input_is : (library : List ModelOf) (i : InstanceOf) (names inputs : List (List ℕ)) (k : ℕ)
    → names ≡ fold with_name [] (formals i) → inputs ≡ (callee library i).inputs
    → position (λ word. not (is_named names word)) inputs ≡ Some k
    → (k < length inputs)
    × (is_named (callee library i).inputs (get_or inputs k []) ≡ true)
    × (is_named (formals i) (get_or inputs k []) ≡ false)
input_is library i names inputs k made same e =
    let found = position-Some (λ word. not (is_named names word)) inputs k [] e in
    let name = get_or inputs k [] in (
      found.0,
      ap (λ (all : List (List ℕ)). is_named all name) (sym same)
          ∙ member_named name inputs (member_get inputs k [] found.0),
      sym (once_named (formals i) name)
          ∙ (ap (λ (all : List (List ℕ)). is_named all name) (sym (made ∙ fold_once (formals i)))
          ∙ not_true (is_named names name) found.1),
    )
