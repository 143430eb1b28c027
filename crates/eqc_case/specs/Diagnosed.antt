-- What is told beside a report of where differences begin, and up to where netlists are known to be
-- equal.
use Rattle.std.specs.Prelude.{All}
use Rattle.eqc_pair.specs.PairOf.{PairOf}
use Rattle.eqc_place.specs.Places.{AreLocated, IsMeeting}
use Rattle.eqc_case.specs.declared.diagnostics.Bordered.{Bordered}
use Rattle.eqc_case.specs.declared.diagnostics.Located.{Located}
use Rattle.eqc_case.specs.declared.locating.Group.{Group}

-- the places of the first output of a group are those under its values
abbrev pub IsGroup : PairOf → Group → Type 0
IsGroup p group = AreLocated p group.values.now group.places

-- the places that are told of an output are those under the values under which it differs
abbrev pub IsLocated : Located → Type 0
IsLocated located = AreLocated located.compared.pair.now located.values.now located.places.now

-- signals that are told to be equal, or opposite, are proved to be so
abbrev pub IsBordered : Bordered → Type 0
IsBordered bordered = All (IsMeeting bordered.compared.pair.now) bordered.border.now.meetings.items
