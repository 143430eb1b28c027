-- What signals of a netlist have, as lists with a place for each signal: kept as such a list, or in
-- a map of few of them.
use Rattle.std.specs.Prelude.{ℕ, ◌<◌, List, map, nat_eq, Option, IsSome}
use Rattle.std.specs.List.{range_with_len}
use Rattle.std.specs.Option.{unwrap_or}
use Rattle.indexmap.specs.IndexMap.{IndexMap, get}
use Rattle.eqc_build.specs.declared.moments.Noted.{Noted}
use Rattle.eqc_build.specs.declared.moments.Noted.TheVariants as noted
use Rattle.eqc_build.specs.declared.table.Entries.{Entries}
use Rattle.eqc_build.specs.declared.table.Entries.TheVariants as entries

-- what each of n signals has
abbrev pub listed : {X : Type 0} → ℕ → (ℕ → X) → List X
listed n f = map f (range_with_len 0 n)

-- the references of signals
abbrev pub references_in : {X : Type 0} → Entries X → List (Option X)
references_in (entries.Each table) = table.items
references_in (entries.Few table count) = listed count (get nat_eq table)

-- what has a reference is a signal of the netlist
abbrev pub AreInside : {X : Type 0} → Entries X → Type 0
AreInside (entries.Each table) = Unit {0}
AreInside (entries.Few table count) = (s : ℕ) → IsSome (get nat_eq table s) → s < count

-- the moment that is noted for a signal, 0 where none is
abbrev pub moment_in : {S : Type 0} → IndexMap ℕ ℕ S → ℕ → ℕ
moment_in last s = unwrap_or (get nat_eq last s) 0

-- the last moments of signals
abbrev pub moments_in : Noted → List ℕ
moments_in (noted.Each last) = last.items
moments_in (noted.Few last count) = listed count (moment_in last)
