-- What is kept while the outputs of a pair are compared in turn.
use Rattle.std.proofs.Common.{◌≡◌, ℕ, ◌+◌, ◌<◌, ◌≤◌, Bool, false, List, [], length, refl, ◌∙◌}
use Rattle.std.proofs.Common.{arith, Option, None}
use Rattle.eqc_tree.specs.Holding.{Entry, Holding, Keeps}
use Rattle.eqc_pair.specs.PairOf.{PairOf}
use Rattle.eqc_build.specs.Building.{OwnsTable, Moves, reference_of}
use Rattle.eqc_build.specs.Steps.{steps_in}
use Rattle.eqc_build.specs.Turns.{is_marked, AreTurns, AreKept, IsComparable, MovesKept}
use Rattle.eqc_build.specs.declared.plan.Plan.{Plan}
use Rattle.eqc_build.proofs.TableLaws.{moves_twice, owned_kept, owned_moves, tally_none}
use Rattle.eqc_build.proofs.BuildLaws.{none_built}

pub kept_twice : {X : Type 0} (entry : X → Entry) (p : PairOf) (d0 d1 d2 : Holding)
    (t0 t1 t2 : List (Option X)) → MovesKept entry p d0 t0 d1 t1 →
    MovesKept entry p d1 t1 d2 t2 → MovesKept entry p d0 t0 d2 t2
kept_twice entry p d0 d1 d2 t0 t1 t2 m n =
    record { moves = moves_twice entry d0 d1 d2 t0 t1 t2 m.moves n.moves; built = n.built }

-- what was moved is kept as before
pub moved_kept : {X : Type 0} (entry : X → Entry) (p : PairOf) (d0 d1 : Holding)
    (t0 t1 : List (Option X)) → AreKept entry p d0 t0 → MovesKept entry p d0 t0 d1 t1
    → AreKept entry p d1 t1
moved_kept entry p d0 d1 t0 t1 k m = record {
  variables = omega (arith, k.variables, m.moves.variables);
  built = m.built;
  owned = owned_moves entry d0 d1 t0 t1 k.owned m.moves;
}

-- a call that keeps what is held keeps what is kept
pub still_kept : {X : Type 0} (entry : X → Entry) (p : PairOf) (d0 d1 : Holding)
    (table : List (Option X)) → AreKept entry p d0 table → Keeps d0 d1 → AreKept entry p d1 table
still_kept entry p d0 d1 table h k = record {
  variables = omega (arith, h.variables, k.variables);
  built = h.built;
  owned = owned_kept entry d0 d1 table k h.owned;
}

-- an output may be compared once more, and each output that is not marked in its turn
pub comparable_again : {X : Type 0} (entry : X → Entry) (plan : Plan) (d0 d1 : Holding)
    (t0 t1 : List (Option X)) (o n : ℕ) →
    IsComparable entry plan d0 t0 o n → MovesKept entry plan.steps.pair d0 t0 d1 t1
    → IsComparable entry plan d1 t1 o n
comparable_again entry plan d0 d1 t0 t1 o n h m = record {
  within = h.within;
  turn = h.turn;
  kept =
      moved_kept entry plan.steps.pair d0 d1 t0 t1 h.kept m;
}

pub comparable_next : {X : Type 0} (entry : X → Entry) (plan : Plan) (marks : List Bool)
    (d : Holding) (table : List (Option X)) (o : ℕ) →
    o < length plan.steps.pair.first.outputs → is_marked marks o ≡ false → AreTurns plan marks
    → AreKept entry plan.steps.pair d table →
    IsComparable entry plan d table o (o + 1)
comparable_next entry plan marks d table o inside unmarked turns kept = record {
  within = inside;
  turn = turns.each o inside unmarked;
  kept = kept;
}

-- a call that keeps what is held moves nothing
pub moves_still : {X : Type 0} (entry : X → Entry) (d0 d1 d2 : Holding) (t0 t1 : List (Option X))
    → Moves entry d0 t0 d1 t1 → Keeps d1 d2 → Moves entry d0 t0 d2 t1
moves_still entry d0 d1 d2 t0 t1 m k = record {
  variables = k.variables ∙ m.variables;
  held =
      λ e. omega (arith, m.held e, k.held e);
}

-- where nothing is left of what came from nothing all is as before
pub nothing_moved : {X : Type 0} (entry : X → Entry) (d0 d1 d2 : Holding) (t0 t1 : List (Option X))
    → Moves entry d0 [] d0 t0 → Moves entry d0 t0 d1 t1 → Moves entry d1 t1 d2 [] → Keeps d0 d2
nothing_moved entry d0 d1 d2 t0 t1 a b c = record {
  variables = c.variables ∙ b.variables;
  held =
      λ e. omega (arith, a.held e, b.held e, c.held e);
}

-- a table without references
pub none_owned : {X : Type 0} (entry : X → Entry) (d : Holding) (table : List (Option X))
    → ((s : ℕ) → reference_of table s ≡ None) → OwnsTable entry d table
none_owned entry d table none = record { held = λ e. omega (arith, tally_none entry table e none) }

pub none_moved : {X : Type 0} (entry : X → Entry) (d : Holding) (table : List (Option X))
    → ((s : ℕ) → reference_of table s ≡ None) → Moves entry d [] d table
none_moved entry d table none = record {
  variables = refl;
  held =
      λ e. omega (arith, tally_none entry table e none);
}

pub none_kept : {X : Type 0} (entry : X → Entry) (p : PairOf) (d : Holding)
    (table : List (Option X)) → length p.first.inputs ≤ d.variables →
    length table ≡ steps_in p → ((s : ℕ) → reference_of table s ≡ None) → AreKept entry p d table
none_kept entry p d table variables size none = record {
  variables = variables;
  built =
      none_built entry p table size none;
  owned = none_owned entry d table none;
}
