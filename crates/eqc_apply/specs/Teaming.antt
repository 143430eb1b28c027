-- The members of a team: a worker each, of one forest.
use Rattle.std.specs.Prelude.{◌≡◌, ℕ, ◌≤◌, List, map, Option}
use Rattle.std.specs.List.{All}
use Rattle.atomic_table.specs.Seated.{TableId}
use Rattle.eqc_tree.specs.Holding.{IsNew}
use Rattle.eqc_core.specs.State.{slots_from}
use Rattle.eqc_core.specs.declared.sizes.Sizes.{Sizes}
use Rattle.eqc_guard.specs.Rule.{sizes_of}
use Rattle.eqc_apply.specs.declared.applier.Applier.{Applier}
use Rattle.eqc_apply.specs.Extending.{holding_in}

-- an applier's number, its forest, and the sizes of that
abbrev pub number_of : Applier → ℕ
number_of a = a.names.worker.known.core.number

abbrev pub forest_of : Applier → TableId
forest_of a = a.names.worker.forest

abbrev pub sizes_in : Applier → Sizes
sizes_in a = a.names.worker.known.core.sizes

-- how many more turns its operations may take, where that is limited
abbrev pub turns_in : Applier → Option ℕ
turns_in a = a.names.turns

-- the numbers that a team may be made with: the room for nodes, the cells of the cache, the
-- members, and the levels in
-- which an operation is shared
abbrev pub AreTeamSizes : ℕ → ℕ → ℕ → ℕ → Type 0
AreTeamSizes nodes cells workers forks = ((1 ≤ nodes) × (nodes ≤ 1048574))
    × ((1 ≤ cells) × (cells ≤ 1048576)) × ((1 ≤ workers) × (workers ≤ 64)) × (forks ≤ 16)

-- so many members of one forest, by their numbers, which hold nothing, and for which there is the
-- room that was asked for
pub record IsTeam (variables nodes cells workers : ℕ) (members : List Applier) : Type 0 where
  pub numbers : map number_of members ≡ slots_from 0 workers
  pub new : All (λ a. IsNew variables (holding_in a.names)) members
  pub forest : TableId
  pub one : All (λ a. forest_of a ≡ forest) members
  pub sizes : All (λ a. sizes_in a ≡ sizes_of variables nodes cells workers) members

-- From here on: for proofs alone.

-- the first member, after some numbers were given
pub record IsLead (variables : ℕ) (sizes : Sizes) (given : ℕ) (a : Applier) : Type 0 where
  pub new : IsNew variables (holding_in a.names)
  pub number : number_of a ≡ 0
  pub sizes_are : sizes_in a ≡ sizes
  pub given_is : a.names.worker.known.core.given ≡ given

-- some of the others
pub record AreOthers (variables : ℕ) (sizes : Sizes) (given : ℕ) (forest : TableId)
    (others : List Applier) : Type 0 where
  pub numbers : map number_of others ≡ slots_from 1 given
  pub new : All (λ a. IsNew variables (holding_in a.names)) others
  pub one : All (λ a. forest_of a ≡ forest) others
  pub room : All (λ a. sizes_in a ≡ sizes) others
