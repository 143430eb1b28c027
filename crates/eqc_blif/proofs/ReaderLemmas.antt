-- Models in a map by their names: which are there, and what opens and closes one.
use Rattle.std.proofs.Common.{◌≡◌, ℕ, ◌+◌, Bool, true, false, not, cond, List, [], ◌∷◌, ◌++◌, map}
use Rattle.std.proofs.Common.{length, position, nat_lt, Option, Some, None, is_some, refl, sym, ◌∙◌}
use Rattle.std.proofs.Common.{ap, inl, inr}
use Rattle.std.specs.Str.{bytes_eq}
use Rattle.std.specs.List.{position_or_len, IsDistinct, AllByRecursion}
use Rattle.std.specs.Map.{lookup}
use Rattle.std.proofs.lemmas.List.{map_push, length-map}
use Rattle.std.proofs.lemmas.Bool.{cases_Bool, or_parts, not-true}
use Rattle.indexmap.specs.IndexMap.{insert_entry}
use Rattle.eqc_blif.specs.Netlist.{ModelOf}
use Rattle.eqc_netlist.specs.Names.{is_named, has_twice}
use Rattle.eqc_blif.specs.Words.{first_of}
use Rattle.eqc_blif.specs.Reading.{After, OpenModel, begun, models}
use Rattle.eqc_blif.specs.Steps.{Takes, DeclarationsOf, model_of, is_new_name}
use Rattle.eqc_blif.specs.declared.reader.kind.Kind.TheVariants.{Model}

abbrev pub Entries : Type 0
Entries = List (List ℕ × DeclarationsOf)

abbrev pub models_in : Entries → List ModelOf
models_in entries = map (λ e. model_of e.0 e.1) entries

-- a name has an entry exactly when it is a model's
pub found_named : (entries : Entries) (name : List ℕ) → is_some (lookup (bytes_eq name) entries)
    ≡ is_named (map (λ m. m.name) (models_in entries)) name
found_named [] name = refl
found_named (e ∷ es) name = elim (cases_Bool (bytes_eq name e.0)) [
  | inl here ↦ rw here refl
  | inr other ↦ rw other (found_named es name)
]

-- a name that is no model's goes last
inserted_last : (entries : Entries) (name : List ℕ) (d : DeclarationsOf)
    → is_named (map (λ m. m.name) (models_in entries)) name ≡ false
    → insert_entry bytes_eq entries name d ≡ entries ++ (name, d) ∷ []
inserted_last [] name d new = refl
inserted_last (e ∷ es) name d new =
    let parts = or_parts (bytes_eq name e.0) (is_named (map (λ m. m.name) (models_in es)) name) new
    in
    rw parts.0 (ap (λ l. e ∷ l) (inserted_last es name d parts.1))

first_place : (entries : Entries) (name : List ℕ)
    → position_or_len (bytes_eq name) (map (λ e. e.0) entries)
    ≡ position_or_len (λ m. bytes_eq name m.name) (models_in entries)
first_place [] name = refl
first_place (e ∷ es) name = ap (λ n. cond (not (bytes_eq name e.0)) (1 + n) 0) (first_place es name)

place_within : ℕ → ℕ → Option ℕ
place_within place len = cond (nat_lt place len) (Some place) None

-- the position of a name among the entries is that among the models
pub found_at : (entries : Entries) (name : List ℕ)
    → position (bytes_eq name) (map (λ e. e.0) entries) ≡ position (λ m. bytes_eq name m.name)
    (models_in entries)
unfolding place_within
found_at entries name =
    let as_long : length (map (λ e. e.0) entries) ≡ length (models_in entries) =
    length-map entries (λ e. e.0) ∙ sym (length-map entries (λ e. model_of e.0 e.1)) in
    ap (λ place. place_within place (length (map (λ e. e.0) entries))) (first_place entries name)
    ∙ ap (place_within (position_or_len (λ m. bytes_eq name m.name) (models_in entries))) as_long

-- a new name's entry is a model behind the others
pub model_added : (entries new : Entries) (all : List ModelOf) (name : List ℕ) (d : DeclarationsOf)
    → models_in entries ≡ all
    → is_named (map (λ m. m.name) all) name ≡ false → new ≡ insert_entry bytes_eq entries name d
    → models_in new ≡ all ++ model_of name d ∷ []
model_added entries new all name d are fresh inserted =
    let absent : is_named (map (λ m. m.name) (models_in entries)) name ≡ false =
    ap (λ ms. is_named (map (λ m. m.name) ms) name) are ∙ fresh in
    ap models_in (inserted ∙ inserted_last entries name d absent)
    ∙ (map_push (λ e. model_of e.0 e.1) entries (name, d)
    ∙ ap (λ ms. ms ++ model_of name d ∷ []) are)

-- the open model has another name than the closed ones
pub open_is_new : (closed : List ModelOf) (before : Option OpenModel) (m : OpenModel)
    (name : List ℕ) → before ≡ Some m
    → is_new_name closed before ≡ true → name ≡ m.model.name
    → is_named (map (λ c. c.name) closed) name ≡ false
open_is_new closed before m name is unused named =
    let fresh : not (is_named (map (λ c. c.name) closed) m.model.name) ≡ true = rw is at unused in
    ap (is_named (map (λ c. c.name) closed)) named ∙ not-true _ fresh

-- the open model is put behind the closed ones
pub model_closed : (closed new : List ModelOf) (before : Option OpenModel) (old : After)
    (m last : OpenModel) (name : List ℕ)
    (d : DeclarationsOf) → ◌≡◌ {A = After} (record { closed = closed; open_model = before }) old
    → before ≡ Some m
    → ◌≡◌ {A = OpenModel} last (record { model = m.model; in_cover = false })
    → (last.in_cover ≡ false → model_of name d ≡ last.model) → new ≡ closed ++ model_of name d ∷ []
    → ◌≡◌ {A = After} (record { closed = new; open_model = None }) (record {
      closed = models old;
      open_model = None;
    })
model_closed closed new before old m last name d view is ended made added =
    let model_is : model_of name d ≡ m.model = made (ap (λ c. c.in_cover) ended)
    ∙ ap (λ c. c.model) ended in
    let all : models old ≡ closed ++ m.model ∷ [] = ap models (sym view) ∙ rw is refl in
    ap (λ ms. record { closed = ms; open_model = None }) (added
    ∙ (ap (λ model. closed ++ model ∷ []) model_is ∙ sym all))

-- whether the first of some words names a model
asked : (closed : List ModelOf) (old : After) (ws : List (List ℕ)) (name : List ℕ) (there : Bool)
    → closed ≡ models old
    → name ≡ first_of ws → there ≡ is_named (map (λ m. m.name) closed) name
    → is_named (map (λ m. m.name) (models old)) (first_of ws) ≡ there
asked closed old ws name there are first answer = rw (← are, ← first) (sym answer)

-- the name was used before
pub model_again : (closed : List ModelOf) (old new : After) (ws : List (List ℕ)) (name : List ℕ)
    (there : Bool)
    → closed ≡ models old → name ≡ first_of ws → there ≡ is_named (map (λ m. m.name) closed) name
    → there ≡ true
    → Takes old Model ws [] (Some 11) new
model_again closed old new ws name there are first answer used =
    (rw (asked closed old ws name there are first answer ∙ used) refl, λ none. cc)

-- the name is new
pub model_opened : (closed : List ModelOf) (old new : After) (ws : List (List ℕ)) (name : List ℕ)
    (there : Bool)
    → closed ≡ models old → name ≡ first_of ws → there ≡ is_named (map (λ m. m.name) closed) name
    → there ≡ false
    → new ≡ record { closed = closed; open_model = Some (begun name) }
    → Takes old Model ws [] None new
model_opened closed old new ws name there are first answer fresh opened = (
  rw (asked closed old ws name there are first answer ∙ fresh) refl,
  λ _. opened
      ∙ rw (are, first) refl,
)

-- keys of which none equals a later one have none twice
once_distinct : (names : List (List ℕ)) → IsDistinct bytes_eq names → has_twice names ≡ false
unfolding IsDistinct
once_distinct [] distinct = refl
once_distinct (name ∷ names) distinct =
    rw (none_equal names distinct.0, once_distinct names distinct.1) refl
  where
    none_equal : (others : List (List ℕ)) → AllByRecursion (λ other. bytes_eq name other ≡ false)
        others → is_named others name ≡ false
    none_equal [] differ = refl
    none_equal (other ∷ others) differ = rw (differ.0, none_equal others differ.1) refl

-- distinct keys are distinct names of models
pub names_once : (entries : Entries) → IsDistinct bytes_eq (map (λ e. e.0) entries)
    → has_twice (map (λ m. m.name) (models_in entries)) ≡ false
names_once entries distinct = ap has_twice (same_names entries)
    ∙ once_distinct (map (λ e. e.0) entries) distinct
  where
    same_names : (es : Entries) → map (λ m. m.name) (models_in es) ≡ map (λ e. e.0) es
    same_names [] = refl
    same_names (e ∷ es) = ap (λ names. e.0 ∷ names) (same_names es)
