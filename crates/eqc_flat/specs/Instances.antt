-- For the proofs alone: the instances of a hierarchy while they are found: the first q of the list,
-- each numbered by its place there.
use Rattle.std.specs.Prelude.{◌≡◌, ℕ, ◌+◌, ◌<◌, ◌≤◌, false, List, [], ◌∷◌, length, map, take}
use Rattle.std.specs.Prelude.{slice_index_or}
use Rattle.std.specs.List.{flat_map, range_with_len}
use Rattle.eqc_blif.specs.Netlist.{ModelOf}
use Rattle.eqc_hierarchy.specs.Hierarchy.{model_at, below, paths}
use Rattle.eqc_hierarchy.specs.Codes.{is_too_large}
use Rattle.eqc_flat.specs.Flattened.{path_at, first_signal}

-- the number of the first instance right below another
abbrev pub first_below : List ModelOf → ℕ → ℕ → ℕ
first_below library top k = length (flat_map (below library top) (take k (paths library top))) + 1

-- the list of instances begins with the main model and goes on with what is right below each of its
-- members
abbrev pub IsGrowing : List ModelOf → ℕ → Type 0
IsGrowing library top = paths library top ≡ [] ∷ flat_map (below library top) (paths library top)

-- the models of the first q instances, the first signal of each, the parent and position of each
-- but the main
-- model, and the number of their signals
pub record IsFound (library : List ModelOf) (top q : ℕ) (models firsts : List ℕ) (places : List (ℕ
    × ℕ)) (signals : ℕ) : Type 0 where
  pub within : q ≤ length (paths library top)
  pub models_of : models ≡ map (model_at library top) (take q (paths library top))
  pub firsts_of : firsts ≡ map (first_signal library top) (range_with_len 0 q)
  pub places_of : [] ∷ map (λ place. place.1 ∷ path_at library top place.0) places
      ≡ take q (paths library top)
  pub parents : (i : ℕ) → i < length places → (slice_index_or places i (0, 0)).0 ≤ i
  pub signals_of : signals ≡ first_signal library top q
  pub few : signals + length places ≤ 1048576

-- the hierarchy of a main model, all its instances found
pub record IsExpanded (library naming : List ModelOf) (top : ℕ) (models firsts : List ℕ)
    (places : List (ℕ × ℕ)) (signals : ℕ) : Type 0 where
  pub same : naming ≡ library
  pub growing : IsGrowing library top
  pub there : top < length library
  pub found : IsFound library top (length (paths library top)) models firsts places signals

-- the hierarchy of a main model, which isn't too large
pub record IsExpansion (library : List ModelOf) (top : ℕ) (hierarchy : List ModelOf × ℕ) : Type 0
  where
    pub small : is_too_large library top ≡ false
    pub same : hierarchy ≡ (library, top)
