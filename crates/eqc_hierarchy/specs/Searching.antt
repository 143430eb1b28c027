-- What a search in depth along dependencies keeps.
use Rattle.std.specs.Prelude.{◌≡◌, ℕ, ◌+◌, ◌<◌, Bool, true, false, not, ◌&&◌, List, [], ◌∷◌, length}
use Rattle.std.specs.Prelude.{take, map, slice_get, slice_index_or, Some, nat_lt}
use Rattle.std.specs.List.{list_all, count_by}
use Rattle.eqc_netlist.specs.Dependency.{among, in_order}
use Rattle.eqc_hierarchy.specs.Walks.{StandOnce}
use Rattle.eqc_hierarchy.specs.declared.search.Stage.{Stage}
use Rattle.eqc_hierarchy.specs.declared.search.Stage.TheVariants.{Fresh, Open, Done}

abbrev pub is_fresh : Stage → Bool
is_fresh Fresh = true
is_fresh Open = false
is_fresh Done = false

abbrev pub stage_at : List Stage → ℕ → Stage
stage_at stages s = slice_index_or stages s Fresh

-- whether all dependencies of n signals are among the n
abbrev pub IsClosed : (ℕ → List ℕ) → ℕ → Type 0
IsClosed deps n = (s k t : ℕ) → s < n → slice_get (deps s) k ≡ Some t → t < n

-- a path of signals, each with how many of its dependencies were looked at; the next one is the
-- signal behind it
abbrev pub IsPath : (ℕ → List ℕ) → List ℕ → List (ℕ × ℕ) → Type 0
IsPath deps order [] = Unit {0}
IsPath deps order (p ∷ []) = list_all (among order) (take p.1 (deps p.0)) ≡ true
IsPath deps order (p ∷ q ∷ path) = (list_all (among order) (take p.1 (deps p.0)) ≡ true)
    × (slice_get (deps p.0) p.1 ≡ Some q.0) × IsPath deps order (q ∷ path)

-- the signals on a path
abbrev pub on : List (ℕ × ℕ) → List ℕ
on path = map (λ p. p.0) path

-- what the search keeps over n signals
pub record IsSearch (deps : ℕ → List ℕ) (n : ℕ) (stages : List Stage) (path : List (ℕ × ℕ))
    (order : List ℕ) : Type 0 where
  pub size : length stages ≡ n
  pub sorted : in_order deps [] order ≡ true
  pub finished : (s : ℕ) → stage_at stages s ≡ Done → among order s ≡ true
  pub open_on_path : (s : ℕ) → stage_at stages s ≡ Open → among (on path) s ≡ true
  pub path_begun : list_all (λ s. nat_lt s n && not (is_fresh (stage_at stages s))) (on path) ≡ true
  pub chain : IsPath deps order path
  pub apart : StandOnce (on path)
  pub order_within : list_all (λ s. nat_lt s n) order ≡ true
  pub counted : length order + length path + count_by is_fresh stages ≡ n

-- a search from a root has the root first on its path, and then in the order
abbrev pub IsRooted : ℕ → List (ℕ × ℕ) → List ℕ → Type 0
IsRooted root [] order = among order root ≡ true
IsRooted root (p ∷ path) order = p.0 ≡ root

-- the state of a search from a root, which began with an order
pub record IsVisit (deps : ℕ → List ℕ) (n root : ℕ) (begun : List ℕ) (stages : List Stage)
    (path : List (ℕ × ℕ)) (order : List ℕ) : Type 0 where
  pub searching : IsSearch deps n stages path order
  pub rooted : IsRooted root path order
  pub kept : (s : ℕ) → among begun s ≡ true → among order s ≡ true
