-- The codes of the models that a main model reaches.
use Rattle.std.proofs.Common.{◌≡◌, ℕ, zero, suc, ◌+◌, ◌≤◌, inl, inr, Bool, true, false, not, List}
use Rattle.std.proofs.Common.{[], ◌∷◌, ◌++◌, length, refl, sym, ◌∙◌, ap, subst, arith, Some, None}
use Rattle.std.specs.List.{list_any, fold}
use Rattle.std.specs.Str.{bytes_eq}
use Rattle.std.proofs.lemmas.Bool.{cases_eq}
use Rattle.eqc_blif.specs.Netlist.{ModelOf, InstanceOf}
use Rattle.eqc_netlist.specs.Names.{is_named}
use Rattle.eqc_netlist.specs.Dependency.{among, ends_within}
use Rattle.eqc_hierarchy.specs.Hierarchy.{model, model_number, callees, reached}
use Rattle.eqc_hierarchy.specs.Codes.{
  formals,
  has_no_such_model,
  is_recursive,
  has_unknown_formal,
  has_formal_twice,
  has_missing_formal,
  is_too_large,
  has_many_inputs,
  is_driven_twice,
  is_undriven,
  is_cyclic,
  code_if,
  flat_code,
}
use Rattle.eqc_netlist.specs.NameSets.{with_name}
use Rattle.eqc_hierarchy.specs.Reaching.{some_instance_in}
use Rattle.eqc_hierarchy.specs.Searching.{IsSearch}
use Rattle.eqc_hierarchy.specs.ModelFaults.{names_no_model, names_no_formal, names_formal_twice}
use Rattle.eqc_hierarchy.specs.ModelFaults.{leaves_input_out, ports, HasNoModelFault}
use Rattle.eqc_hierarchy.specs.declared.search.Stage.{Stage}
use Rattle.eqc_netlist.proofs.Depth.{ends_more, ordered_ends}
use Rattle.eqc_netlist.proofs.Members.{any_same_members}
use Rattle.eqc_hierarchy.proofs.NameSetLaws.{once_named, fold_once, formal_named}

-- ---- conditions over all instances of the models that are reached

pub same_instances : (library : List ModelOf) (top : ℕ) (models : List ℕ) (test : InstanceOf → Bool)
    → ((m : ℕ) → among models m ≡ among (reached library top) m)
    → some_instance_in library models test ≡ some_instance_in library (reached library top) test
same_instances library top models test same =
    any_same_members (λ m. list_any test (model library m).instances) models (reached library top)
    same

pub no_such_model_is : (library : List ModelOf) (models : List ℕ) (some : Bool)
    → some ≡ some_instance_in library models (names_no_model library) → (top : ℕ)
    → ((m : ℕ) → among models m ≡ among (reached library top) m)
    → some ≡ has_no_such_model library top
unfolding has_no_such_model
no_such_model_is library models some e top same = e
    ∙ same_instances library top models (names_no_model library) same

pub unknown_formal_is : (library : List ModelOf) (models : List ℕ) (some : Bool)
    → some ≡ some_instance_in library models (names_no_formal library) → (top : ℕ)
    → ((m : ℕ) → among models m ≡ among (reached library top) m)
    → some ≡ has_unknown_formal library top
unfolding has_unknown_formal
unknown_formal_is library models some e top same = e
    ∙ same_instances library top models (names_no_formal library) same

pub formal_twice_is : (library : List ModelOf) (models : List ℕ) (some : Bool)
    → some ≡ some_instance_in library models names_formal_twice → (top : ℕ)
    → ((m : ℕ) → among models m ≡ among (reached library top) m)
    → some ≡ has_formal_twice library top
unfolding has_formal_twice
formal_twice_is library models some e top same = e
    ∙ same_instances library top models names_formal_twice same

pub missing_formal_is : (library : List ModelOf) (models : List ℕ) (some : Bool)
    → some ≡ some_instance_in library models (leaves_input_out library) → (top : ℕ)
    → ((m : ℕ) → among models m ≡ among (reached library top) m)
    → some ≡ has_missing_formal library top
unfolding has_missing_formal
missing_formal_is library models some e top same = e
    ∙ same_instances library top models (leaves_input_out library) same

-- ---- recursion

pub ends_below : (deps : ℕ → List ℕ) (d n s : ℕ) → d ≤ n → ends_within deps d s ≡ true
    → ends_within deps n s ≡ true
ends_below deps d zero s le e = let P : ℕ → Type 0 = λ x. ends_within deps x s ≡ true in
    let same : d ≡ 0 = omega arith in subst P same e
ends_below deps d (suc n) s le e = elim (cases_eq d (suc n)) [
  | inl same ↦ let P : ℕ → Type 0 = λ x. ends_within deps x s ≡ true in subst P same e
  | inr other ↦ ends_more deps n s (ends_below deps d n s (omega arith) e)
]

-- a search that ended says whether the main model reaches a model that reaches itself
pub recursive_is : (library : List ModelOf) (top : ℕ) (stages : List Stage) (order : List ℕ)
    (ends : Bool)
    → (ends ≡ true → IsSearch (callees library) (length library + 1) stages [] order)
    → (ends ≡ true → among order top ≡ true)
    → (ends ≡ false → (steps : ℕ) → ends_within (callees library) steps top ≡ false)
    → not ends ≡ is_recursive library top
unfolding is_recursive
recursive_is library top stages order true h placed cyclic =
    let s = h refl in
    let e : ends_within (callees library) (suc (length library)) top ≡ true =
    ends_below (callees library) (length order) (suc (length library)) top
    (omega (arith, s.counted))
    (ordered_ends (callees library) order s.sorted top (placed refl)) in
    sym (ap not e)
recursive_is library top stages order false h placed cyclic =
    sym (ap not (cyclic refl (suc (length library))))

-- ---- formals

any_same : {X : Type 0} (p q : X → Bool) (xs : List X) → ((x : X) → p x ≡ q x)
    → list_any p xs ≡ list_any q xs
any_same p q [] h = refl
any_same p q (x ∷ xs) h = rw (h x, any_same p q xs h) refl

pub no_formal_is : (library : List ModelOf) (i : InstanceOf) (known : List (List ℕ))
    → known ≡ ports library (model_number library i.model)
    → list_any (λ formal. not (is_named known formal)) (formals i) ≡ names_no_formal library i
no_formal_is library i known is =
    any_same (λ formal. not (is_named known formal))
    (λ formal.
    not (is_named ((model library (model_number library i.model)).inputs
    ++ (model library (model_number library i.model)).outputs)
    formal)) (formals i)
    (λ formal. ap not (ap (λ names. is_named names formal) is
    ∙ once_named ((model library (model_number library i.model)).inputs
    ++ (model library (model_number library i.model)).outputs) formal))

pub input_out_is : (library : List ModelOf) (i : InstanceOf) (names : List (List ℕ))
    → names ≡ fold with_name [] (formals i)
    → list_any (λ input. not (is_named names input))
    (model library (model_number library i.model)).inputs ≡ leaves_input_out library i
input_out_is library i names is =
    any_same (λ input. not (is_named names input)) (λ input. not (is_named (formals i) input))
    (model library (model_number library i.model)).inputs
    (λ input. ap not (ap (λ names. is_named names input) (is ∙ fold_once (formals i))
    ∙ once_named (formals i) input))

-- the same by comparing each input with the formals one by one
pub input_unpaired : (library : List ModelOf) (i : InstanceOf)
    → list_any (λ input. not (list_any (λ (pair : List ℕ × List ℕ). bytes_eq input pair.0) i.pairs))
    (model library (model_number library i.model)).inputs
    ≡ leaves_input_out library i
input_unpaired library i =
    any_same (λ input. not (list_any (λ (pair : List ℕ × List ℕ). bytes_eq input pair.0) i.pairs))
    (λ input. not (is_named (formals i) input))
    (model library (model_number library i.model)).inputs
    (λ input. ap not (formal_named i.pairs input))

-- ---- the first code

pub code_21 : (library : List ModelOf) (top : ℕ) → has_no_such_model library top ≡ true
    → (limit : ℕ) → flat_code library top limit ≡ Some 21
unfolding flat_code
code_21 library top a limit = rw a refl

pub code_22 : (library : List ModelOf) (top : ℕ) → has_no_such_model library top ≡ false
    → is_recursive library top ≡ true → (limit : ℕ) → flat_code library top limit ≡ Some 22
unfolding flat_code
code_22 library top a b limit = rw (a, b) refl

pub code_23 : (library : List ModelOf) (top : ℕ) → has_no_such_model library top ≡ false
    → is_recursive library top ≡ false → has_unknown_formal library top ≡ true
    → (limit : ℕ) → flat_code library top limit ≡ Some 23
unfolding flat_code
code_23 library top a b c limit = rw (a, b, c) refl

pub code_24 : (library : List ModelOf) (top : ℕ) → has_no_such_model library top ≡ false
    → is_recursive library top ≡ false
    → has_unknown_formal library top ≡ false → has_formal_twice library top ≡ true → (limit : ℕ)
    → flat_code library top limit ≡ Some 24
unfolding flat_code
code_24 library top a b c d limit = rw (a, b, c, d) refl

pub code_25 : (library : List ModelOf) (top : ℕ) → has_no_such_model library top ≡ false
    → is_recursive library top ≡ false
    → has_unknown_formal library top ≡ false → has_formal_twice library top ≡ false
    → has_missing_formal library top ≡ true
    → (limit : ℕ) → flat_code library top limit ≡ Some 25
unfolding flat_code
code_25 library top a b c d e limit = rw (a, b, c, d, e) refl

-- without a fault of the models the first code is one of signals and instances
pub later_code : (library : List ModelOf) (top limit : ℕ) → HasNoModelFault library top
    → flat_code library top limit
    ≡ code_if (is_too_large library top) 29
    (code_if (has_many_inputs library top limit) 30
    (code_if (is_driven_twice library top) 26
    (code_if (is_undriven library top) 27 (code_if (is_cyclic library top) 28 None))))
unfolding flat_code
later_code library top limit h = rw (
  h.models_there,
  h.not_recursive,
  h.formals_known,
  h.formals_once,
  h.inputs_given,
) refl

-- what a condition over some models says of the models that are reached
pub told : (condition : List ModelOf → ℕ → Bool) (given library : List ModelOf)
    (models items : List ℕ) (top : ℕ) (some is : Bool) → given ≡ library → models ≡ items
    → ((top : ℕ) → ((m : ℕ) → among models m ≡ among (reached given top) m)
    → some ≡ condition given top)
    → ((m : ℕ) → among items m ≡ among (reached library top) m) → some ≡ is → condition library top
    ≡ is
told condition given library models items top some is l m clause same e =
    let t : some ≡ condition given top = clause top (λ x. ap (λ list. among list x) m
    ∙ (same x ∙ ap (λ k. among (reached k top) x) (sym l))) in
    ap (λ k. condition k top) (sym l) ∙ (sym t ∙ e)
