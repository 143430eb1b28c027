-- A worker as contracts see it: which forest it is of, and what it knows.
use Rattle.std.specs.Prelude.{◌≡◌, ℕ, List, [], ◌∷◌, length, map, Option, Some, None}
use base.Stored.{Coded, coded×, coded_via}
use Rattle.atomic_table.specs.Seated.{TableId, table_id_coded}
use Rattle.eqc_core.specs.declared.sizes.Sizes.{Sizes}
use Rattle.eqc_core.specs.declared.phase.Phase.{Phase}
use Rattle.eqc_core.specs.View.{View, Hand}
use Rattle.eqc_guard.specs.Known.{Known, known_coded, Stepped}
use Rattle.eqc_guard.specs.Rule.{IsWorker}

pub record Standing : Type 0 where
  pub forest : TableId
  pub known : Known

abbrev pub standing_coded : Coded Standing
standing_coded = coded_via (coded× table_id_coded known_coded) (λ (s : Standing). (
  s.forest,
  s.known,
)) (λ x y e i. record { forest = (e i).0; known = (e i).1 })

-- a step of the worker: its view of the machine is now v
pub record Steps (old : Standing) (v : View) (new : Standing) : Type 0 where
  pub forest : new.forest ≡ old.forest
  pub known : Stepped old.known v new.known

-- the stripe in hand, if there is one
abbrev pub stripes_in : Option Hand → List ℕ
stripes_in None = []
stripes_in (Some h) = h.stripe ∷ []

-- the slots that are out with a seat
abbrev pub slots_out : {S : Type 0} → List (ℕ × S) → List ℕ
slots_out {S} xs = map (λ (x : ℕ × S). x.0) xs

-- what a worker's fields have to do with its seat: the slot of a stripe in hand is out with it
pub record IsSeated {S : Type 0} (seat_table table : TableId) (key sizes : Sizes) (me : Known
    × List (ℕ × S)) (number held : ℕ) (phases : List Phase)
    (retired noted : List ℕ) (position given : ℕ) (out : List ℕ) (draft : Option ℕ) : Type 0 where
  pub one_table : seat_table ≡ table
  pub one_key : key ≡ sizes
  pub worker : IsWorker table sizes me
  pub carries : slots_out me.1 ≡ stripes_in me.0.core.hand
  pub number_is : number ≡ me.0.core.number
  pub held_is : held ≡ length me.0.core.held
  pub phases_are : me.0.core.phases ≡ phases
  pub retired_are : retired ≡ me.0.core.retired
  pub noted_are : noted ≡ me.0.core.noted
  pub position_is : position ≡ me.0.core.position
  pub given_is : given ≡ me.0.core.given
  pub out_is : out ≡ me.0.core.out
  pub draft_is : draft ≡ me.0.core.draft
